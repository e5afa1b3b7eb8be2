use Rattle.std.proofs.Common.{◌≡◌, ◌≤◌, ◌+◌, ◌-◌, ◌*◌, length, drop}
use lib.Lanes.{sum_l, Each1}
use Rattle.lane_kernels.specs.Checksum.{word_sum}
use Rattle.lane_kernels.proofs.checksum.block_sum.Given as goal

-- the halves so far and the words of what is left; each lane has at most 255 for each vector
abbrev pub invariant-loop-at : goal.invariant-loop-at
invariant-loop-at l = record {
  whole : 256 * sum_l l.highs + sum_l l.lows + word_sum (drop l.at l.block) ≡ word_sum l.block;
  highs_fit : Each1 (λ x. 32 * x ≤ 255 * l.at) l.highs;
  lows_fit : Each1 (λ x. 32 * x ≤ 255 * l.at) l.lows;
  highs_whole : length l.highs ≡ 16;
  lows_whole : length l.lows ≡ 16;
  within : l.at ≤ length l.block;
}

abbrev pub decreases-loop-at : goal.decreases-loop-at
decreases-loop-at l = length l.block - l.at
