use Rattle.rv32_isa.proofs.Words.{assembled_is}
use Rattle.rv32_isa.proofs.encoder.assembled.Goals as goal

pub returns : goal.returns
returns c =
    let r = c.requires in
    assembled_is c.args.top c.args.rs1 c.args.funct3 c.args.rd c.args.opcode r.top r.rs1 r.funct3 r.rd r.opcode
