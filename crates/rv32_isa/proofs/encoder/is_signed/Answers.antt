use Rattle.rv32_isa.proofs.Words.{signed_test}
use Rattle.rv32_isa.proofs.encoder.is_signed.Goals as goal

pub returns : goal.returns
returns c = signed_test c.args.number c.args.width _ c.ranges.number c.requires.some c.requires.at_most_31 c.cast_unsigned.ensures
