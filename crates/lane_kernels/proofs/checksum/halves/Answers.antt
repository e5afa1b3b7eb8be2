use Rattle.std.proofs.lemmas.Simd.{length-chunk}
use lib.Lanes.{chunk}
use Rattle.lane_kernels.proofs.Sums.{highs_in_lanes, lows_in_lanes, vector_bytes}
use Rattle.lane_kernels.proofs.checksum.halves.Goals as goal

pub returns-clause-highs : goal.returns-clause-highs
returns-clause-highs c = highs_in_lanes 16 (chunk c.args.at 32 c.args.block.now) (length-chunk c.args.at 32 c.args.block.now c.requires) (vector_bytes c.args.block.now c.args.at c.type_inv.block)

pub returns-clause-lows : goal.returns-clause-lows
returns-clause-lows c = lows_in_lanes 16 (chunk c.args.at 32 c.args.block.now) (length-chunk c.args.at 32 c.args.block.now c.requires) (vector_bytes c.args.block.now c.args.at c.type_inv.block)
