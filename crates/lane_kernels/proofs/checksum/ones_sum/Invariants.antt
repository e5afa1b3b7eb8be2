use Rattle.std.proofs.Common.{◌≡◌, ◌≤◌, ◌<◌, ◌+◌, ◌-◌, length, drop}
use Rattle.lane_kernels.specs.Checksum.{word_sum, folded}
use Rattle.lane_kernels.proofs.checksum.ones_sum.Given as goal

-- what was summed and folded, and what is left
abbrev pub invariant-loop-at : goal.invariant-loop-at
invariant-loop-at l = record {
  whole : folded (l.sum + word_sum (drop l.at l.bytes)) ≡ folded (word_sum l.bytes);
  within : l.at ≤ length l.bytes;
  small : l.sum < 65536;
}

abbrev pub decreases-loop-at : goal.decreases-loop-at
decreases-loop-at l = length l.bytes - l.at
