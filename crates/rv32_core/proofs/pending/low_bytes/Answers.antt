use Rattle.rv32_core.proofs.AccessLaws.{low_byte, low_half}
use Rattle.rv32_core.proofs.pending.low_bytes.Goals as goal

pub returns-in-1 : goal.returns-in-1
returns-in-1 c = low_byte c.args.word c.args.size c.in-1.is

pub returns-in-2 : goal.returns-in-2
returns-in-2 c = low_half c.args.word c.args.size c.in-2.is
