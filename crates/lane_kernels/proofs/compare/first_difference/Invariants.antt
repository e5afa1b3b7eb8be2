use Rattle.std.proofs.Common.{◌≡◌, ◌≤◌, ◌-◌}
use Rattle.lane_kernels.specs.Difference.{difference_from, first_difference_of}
use Rattle.lane_kernels.proofs.compare.first_difference.Given as goal

-- the bytes so far are equal
abbrev pub invariant-loop-at : goal.invariant-loop-at
invariant-loop-at l = record {
  equal : difference_from l.at l.a l.b ≡ first_difference_of l.a l.b;
  within : l.at ≤ l.common;
}

abbrev pub decreases-loop-at : goal.decreases-loop-at
decreases-loop-at l = l.common - l.at
