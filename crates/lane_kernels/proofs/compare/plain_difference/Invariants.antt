use Rattle.std.proofs.Common.{◌≡◌}
use Rattle.lane_kernels.specs.Difference.{difference_from}
use Rattle.lane_kernels.proofs.compare.plain_difference.Given as goal

-- the bytes so far are equal
abbrev pub invariant-loop-at : goal.invariant-loop-at
invariant-loop-at l = difference_from l.at l.a l.b ≡ difference_from l.fn.start l.a l.b
