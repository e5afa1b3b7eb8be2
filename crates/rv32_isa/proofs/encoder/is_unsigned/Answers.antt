use Rattle.rv32_isa.proofs.Words.{unsigned_test}
use Rattle.rv32_isa.proofs.encoder.is_unsigned.Goals as goal

pub returns : goal.returns
returns c = unsigned_test c.args.number c.args.width _ c.ranges.number c.requires c.cast_unsigned.ensures
