use Rattle.std.proofs.lemmas.Simd.{length-chunk}
use lib.Lanes.{chunk}
use Rattle.lane_kernels.proofs.Equals.{all_equal, first_unequal}
use Rattle.lane_kernels.proofs.compare.equal_lanes.Goals as goal

pub returns-then-bits-eq0 : goal.returns-then-bits-eq0
returns-then-bits-eq0 c =
    all_equal (chunk c.args.at 32 c.args.a.now) (chunk c.args.at 32 c.args.b.now) c.differing-bits.result c.differing-bits.ensures
    (length-chunk c.args.at 32 c.args.a.now c.requires.in_a) (length-chunk c.args.at 32 c.args.b.now c.requires.in_b) c.if-bits-eq0.true

pub returns-else-bits-eq0 : goal.returns-else-bits-eq0
returns-else-bits-eq0 c =
    first_unequal (chunk c.args.at 32 c.args.a.now) (chunk c.args.at 32 c.args.b.now) c.differing-bits.result c.differing-bits.ensures
    (length-chunk c.args.at 32 c.args.a.now c.requires.in_a) (length-chunk c.args.at 32 c.args.b.now c.requires.in_b) c.if-bits-eq0.false
