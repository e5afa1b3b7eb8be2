use Rattle.std.proofs.Common.{◌-◌}
use Rattle.switch_sim.proofs.Files.{IsSearched}
use Rattle.switch_sim.proofs.table.Table.place_of.Given as goal

abbrev pub invariant-loop-place : goal.invariant-loop-place
invariant-loop-place l = IsSearched l.self-inside.entries.items l.self-inside.chains.buckets l.mac l.place

abbrev pub decreases-loop-place : goal.decreases-loop-place
decreases-loop-place l = 4096 - l.place
