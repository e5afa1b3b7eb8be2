use Rattle.std.proofs.Common.{length}
use Rattle.rv32_asm.proofs.UnderWay.{IsUnderWay}
use Rattle.rv32_asm.proofs.layout.lay_out.Given as goal

abbrev pub invariant-loop-rest : goal.invariant-loop-rest
invariant-loop-rest l = IsUnderWay l.source l.rest l.layout

abbrev pub decreases-loop-rest : goal.decreases-loop-rest
decreases-loop-rest l = length l.rest
