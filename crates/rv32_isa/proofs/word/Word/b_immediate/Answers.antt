use Rattle.std.proofs.Common.{◌/◌, ◌^◌, ◌∙◌, ap, arith, w32, SFits}
use Rattle.std.proofs.lemmas.Int.{to_z-of_z}
use Rattle.rv32_isa.specs.Bits.{signed}
use Rattle.rv32_isa.proofs.Words.{b_offset}
use Rattle.rv32_isa.proofs.word.Word.b_immediate.Goals as goal

pub sign_extended-requires-clause-fits : goal.sign_extended-requires-clause-fits
sign_extended-requires-clause-fits c = rw (b_offset c.args.self.0 (c.funct7-sign.result / 2 ^ 6) (omega arith)) (omega arith)

pub returns : goal.returns
returns c =
    let fits : SFits w32 c.sign_extended.result = record { sfits = c.sign_extended.type_inv } in
    to_z-of_z w32 _ fits ∙ (c.sign_extended.ensures ∙ ap (signed 13) (b_offset c.args.self.0 (c.funct7-sign.result / 2 ^ 6) (omega arith)))
