use Rattle.std.proofs.Common.{◌≡◌, Bool, sym, ◌∙◌, ap, arith}
use Rattle.rv32_core.specs.Accesses.{loaded}
use Rattle.rv32_core.proofs.AccessLaws.{signed_byte, signed_half, signed_word}
use Rattle.rv32_core.proofs.pending.loaded.Goals as goal

pub returns-in-1 : goal.returns-in-1
unfolding loaded
returns-in-1 c =
    signed_byte c.args.word c.args.size _ _ _ c.in-1.is c.cast_signed.type_inv c.cast_signed.ensures c.from.ensures c.cast_unsigned.ensures
    ∙ ap (λ (b : Bool). loaded c.args.size b c.args.word) (sym c.if-not-signed.false)

pub returns-in-2 : goal.returns-in-2
unfolding loaded
returns-in-2 c =
    signed_half c.args.word c.args.size _ _ _ c.in-2.is c.cast_signed-in-2.type_inv c.cast_signed-in-2.ensures c.from-in-2.ensures c.cast_unsigned-in-2.ensures
    ∙ ap (λ (b : Bool). loaded c.args.size b c.args.word) (sym c.if-not-signed.false)

pub returns-in_default : goal.returns-in_default
unfolding loaded
returns-in_default c =
    let four : c.args.size ≡ 4 = grind arith in
    signed_word c.args.word c.args.size four c.ranges.word.fits
    ∙ ap (λ (b : Bool). loaded c.args.size b c.args.word) (sym c.if-not-signed.false)
