use Rattle.std.proofs.Common.{map}
use Rattle.toml.specs.View.{view}
use Rattle.topology_file.specs.Ports.{names_of}
use Rattle.topology_file.proofs.LinksInOrder.{AreJoined}
use Rattle.topology_file.proofs.links.links.Given as goal

abbrev pub invariant-loop-entry : goal.invariant-loop-entry
invariant-loop-entry l = AreJoined (names_of l.components) l.kinds (map view l.entries) l.entry-index l.joined.links
