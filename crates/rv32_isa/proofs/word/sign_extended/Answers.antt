use Rattle.rv32_isa.proofs.Words.{extended_is}
use Rattle.rv32_isa.proofs.word.sign_extended.Goals as goal

pub returns : goal.returns
returns c =
    let r = c.requires in
    extended_is c.args.width c.args.bits _ r.some r.at_most_32 r.fits (record { sfits = c.cast_signed.type_inv }) c.cast_signed.ensures
