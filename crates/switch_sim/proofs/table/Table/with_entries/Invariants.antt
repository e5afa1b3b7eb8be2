use Rattle.std.proofs.Common.{◌≡◌, take}
use Rattle.switch_sim.proofs.table.Table.with_entries.Given as goal

abbrev pub invariant-loop-entry : goal.invariant-loop-entry
invariant-loop-entry l = l.table ≡ take l.entry-index l.entries
