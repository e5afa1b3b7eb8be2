use Rattle.rv32_isa.proofs.Words.{assembled_upper_is}
use Rattle.rv32_isa.proofs.encoder.assembled_upper.Goals as goal

pub returns : goal.returns
returns c = assembled_upper_is c.args.top c.args.rd c.args.opcode c.requires.top c.requires.rd c.requires.opcode
