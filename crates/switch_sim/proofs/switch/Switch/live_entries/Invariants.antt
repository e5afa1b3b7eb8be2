use Rattle.std.proofs.Common.{◌≡◌, take}
use Rattle.std.specs.List.{filter}
use Rattle.switch_sim.specs.Table.{is_live}
use Rattle.switch_sim.proofs.switch.Switch.live_entries.Given as goal

abbrev pub invariant-loop-entry : goal.invariant-loop-entry
invariant-loop-entry l = l.entries.items ≡ filter (is_live l.self l.at) (take l.entry-index l.entry-items)
