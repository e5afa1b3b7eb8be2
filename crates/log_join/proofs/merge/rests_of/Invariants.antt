use Rattle.std.proofs.Common.{◌≡◌, map, take}
use Rattle.log_join.proofs.merge.rests_of.Given as goal

abbrev pub invariant-loop-log : goal.invariant-loop-log
invariant-loop-log l = map (λ rest. rest.now) l.rests.items ≡ take l.log-index l.logs
