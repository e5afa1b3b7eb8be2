use Rattle.std.proofs.lemmas.Simd.{length-chunk}
use lib.Lanes.{chunk}
use Rattle.lane_kernels.proofs.Equals.{bits_in_lanes}
use Rattle.lane_kernels.proofs.compare.differing.Goals as goal

pub returns : goal.returns
returns c =
    bits_in_lanes (chunk c.args.at 32 c.args.a.now) (chunk c.args.at 32 c.args.b.now)
    (length-chunk c.args.at 32 c.args.a.now c.requires.in_a) (length-chunk c.args.at 32 c.args.b.now c.requires.in_b)
