use Rattle.std.proofs.Common.{◌∙◌, sym, arith}
use Rattle.lane_kernels.proofs.Equals.{no_more}
use Rattle.lane_kernels.proofs.compare.plain_difference.Goals as goal

pub returns : goal.returns
returns c = sym (no_more c.loop-at.at c.args.a.now c.args.b.now (omega arith)) ∙ c.loop-at.invariant
