use Rattle.std.proofs.Common.{ℕ, ◌+◌, ◌∙◌, arith, drop, ap}
use Rattle.lane_kernels.specs.Checksum.{word_sum, folded}
use Rattle.lane_kernels.proofs.Sums.{folded-add, block_then}
use Rattle.lane_kernels.proofs.checksum.ones_sum.Goals as goal

pub loop-at-preserved : goal.loop-at-preserved
loop-at-preserved c =
    let at : ℕ = c.loop-at.at in
    let rest : ℕ = word_sum (drop (at + 8192) c.args.bytes.now) in
    record {
      whole =
          ap (λ n. folded (n + rest)) c.fold-sum.ensures
          ∙ folded-add (c.from.result + c.block_sum.result) rest
          ∙ ap folded (omega (arith, c.from.ensures, c.block_sum.ensures.sum, block_then at c.args.bytes.now c.loop-at-test.true))
          ∙ c.loop-at.invariant.whole;
      within = c.loop-at-test.true;
      small = c.fold-sum.type_inv;
    }
