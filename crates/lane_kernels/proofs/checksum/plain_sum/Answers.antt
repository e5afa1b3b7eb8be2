use Rattle.std.proofs.Common.{arith}
use Rattle.lane_kernels.proofs.Sums.{word_sum_bound, word_sum_step, word_sum_last}
use Rattle.lane_kernels.proofs.checksum.plain_sum.Goals as goal

pub overflow_add-sum-in-loop-at : goal.overflow_add-sum-in-loop-at
overflow_add-sum-in-loop-at c = record { fits = omega (arith, word_sum_bound c.args.bytes.now c.type_inv.bytes, word_sum_step c.args.bytes.now c.loop-at.at c.loop-at-test.true, c.requires) }

pub overflow_add-sum-then-at-bytes : goal.overflow_add-sum-then-at-bytes
overflow_add-sum-then-at-bytes c = record { fits = omega (arith, word_sum_bound c.args.bytes.now c.type_inv.bytes, word_sum_last c.args.bytes.now c.loop-at.at (omega arith), c.requires) }
