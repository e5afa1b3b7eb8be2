use Rattle.std.proofs.Common.{◌≡◌, ◌++◌, ◌-◌, map, take, length, None}
use Rattle.std.specs.Prelude.{replicate}
use Rattle.log_join.specs.Heads.{head_time}
use Rattle.log_join.proofs.merge.first_times.Given as goal

abbrev pub invariant-loop-index : goal.invariant-loop-index
invariant-loop-index l = l.agenda ≡ map head_time (take l.index l.logs) ++ replicate (length l.logs - l.index) None
