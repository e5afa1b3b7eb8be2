use Rattle.std.proofs.Common.{sym, ◌∙◌}
use Rattle.rv32_asm.proofs.Reach.{branch_fails}
use Rattle.rv32_asm.specs.Meaning.{offset}
use Rattle.rv32_asm.proofs.words.branch_word.Goals as goal

pub returns-in_err-near_offset : goal.returns-in_err-near_offset
returns-in_err-near_offset c =
    c.from_residual.ensures
    ∙ sym (branch_fails c.args.condition c.args.rs1 c.args.rs2 (offset c.args.at c.args.to) c.in_err-near_offset.ensures.far)
