use Rattle.std.proofs.Common.{map}
use Rattle.toml.specs.View.{view}
use Rattle.topology_file.proofs.ComponentsRead.{AreRead}
use Rattle.topology_file.proofs.components.components.Given as goal

abbrev pub invariant-loop-entry : goal.invariant-loop-entry
invariant-loop-entry l = AreRead (map view l.entries) l.entry-index l.components
