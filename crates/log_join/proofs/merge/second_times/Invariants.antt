use Rattle.std.proofs.Common.{◌≡◌, map, take}
use Rattle.log_join.specs.Heads.{second_time}
use Rattle.log_join.proofs.merge.second_times.Given as goal

abbrev pub invariant-loop-log : goal.invariant-loop-log
invariant-loop-log l = l.seconds.items ≡ map second_time (take l.log-index l.logs)
