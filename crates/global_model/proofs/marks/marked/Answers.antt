use Rattle.std.proofs.Common.{arith, w32}
use Rattle.std.proofs.lemmas.Nat.Bits.{bit_at_set_same, bit_at_set_other, bit_at_clear_other}
use Rattle.global_model.proofs.marks.marked.Goals as goal

pub returns-then-waits-clause-own : goal.returns-then-waits-clause-own
returns-then-waits-clause-own c small waits = bit_at_set_same w32 c.args.mask c.args.port small

pub returns-then-waits-clause-others : goal.returns-then-waits-clause-others
returns-then-waits-clause-others c p small differs = bit_at_set_other w32 c.args.mask c.args.port (omega (arith, c.if-port-ge32.false)) p differs

pub returns-else-waits-clause-others : goal.returns-else-waits-clause-others
returns-else-waits-clause-others c p small differs = bit_at_clear_other w32 c.args.mask c.args.port (omega (arith, c.if-port-ge32.false)) p small differs
