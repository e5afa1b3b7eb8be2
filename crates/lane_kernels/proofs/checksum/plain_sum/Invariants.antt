use Rattle.std.proofs.Common.{◌≡◌, ◌+◌, ◌-◌, ◌≤◌, length, drop}
use Rattle.lane_kernels.specs.Checksum.{word_sum}
use Rattle.lane_kernels.proofs.checksum.plain_sum.Given as goal

-- the sum so far and that of what is left
abbrev pub invariant-loop-at : goal.invariant-loop-at
invariant-loop-at l = record {
  whole : l.sum + word_sum (drop l.at l.bytes) ≡ word_sum l.bytes;
  within : l.at ≤ length l.bytes;
}

abbrev pub decreases-loop-at : goal.decreases-loop-at
decreases-loop-at l = length l.bytes - l.at
