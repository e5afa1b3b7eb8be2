use Rattle.std.proofs.Common.{◌≡◌, map, take}
use Rattle.toml.specs.View.{view}
use Rattle.topology_file.specs.Ports.{names_of}
use Rattle.topology_file.specs.Full.{full_link}
use Rattle.topology_file.proofs.printer.link_entries.Given as goal

abbrev pub invariant-loop-item : goal.invariant-loop-item
invariant-loop-item l = map view l.entries.items ≡ map (full_link (names_of l.t.components)) (take l.item-index l.t.wiring.links)
