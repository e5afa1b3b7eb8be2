use Rattle.std.proofs.Common.{◌+◌, ◌∙◌, sym, ap, arith, Some}
use Rattle.lane_kernels.proofs.Equals.{chunk_equal, chunk_unequal}
use Rattle.lane_kernels.proofs.compare.first_difference.Goals as goal

pub returns-then-equal-lt-LANES : goal.returns-then-equal-lt-LANES
returns-then-equal-lt-LANES c = record {
  place =
      ap (λ n. Some (c.loop-at.at + n)) c.equal_lanes-equal.ensures
      ∙ sym (chunk_unequal c.loop-at.at c.args.a.now c.args.b.now (omega arith) (omega arith) (omega arith))
      ∙ c.loop-at.invariant.equal;
}

pub loop-at-preserved : goal.loop-at-preserved
loop-at-preserved c = record {
  equal =
      sym (chunk_equal c.loop-at.at c.args.a.now c.args.b.now (omega arith) (omega arith) (omega arith))
      ∙ c.loop-at.invariant.equal;
  within = c.loop-at-test.true;
}
