use Rattle.std.proofs.Common.{◌≡◌, map, take}
use Rattle.toml.specs.View.{view}
use Rattle.topology_file.specs.Full.{full_component}
use Rattle.topology_file.proofs.printer.component_entries.Given as goal

abbrev pub invariant-loop-item : goal.invariant-loop-item
invariant-loop-item l = map view l.entries.items ≡ map full_component (take l.item-index l.components)
