use Rattle.std.proofs.Common.{◌≡◌}
use Rattle.rv32_asm.specs.Assembled.{assembled}
use Rattle.rv32_asm.specs.Layout.{placed, place_of}
use Rattle.rv32_asm.proofs.Outcomes.{so_far}
use Rattle.rv32_asm.proofs.UnderWay.{parsed}
use Rattle.rv32_asm.proofs.assembler.assemble.Given as goal

abbrev pub invariant-loop-line : goal.invariant-loop-line
invariant-loop-line l = record {
  items : l.line-items ≡ placed (parsed l.source);
  counted : l.number ≡ l.line-index;
  outcome : so_far (place_of (parsed l.source)) l.out l.line-index l.line-items ≡ assembled l.source;
}
