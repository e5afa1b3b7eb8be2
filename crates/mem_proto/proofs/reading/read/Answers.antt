use Rattle.mem_proto.proofs.Spellings.{only_from}
use Rattle.mem_proto.proofs.reading.read.Goals as goal

pub returns-clause-only : goal.returns-clause-only
returns-clause-only c = only_from c.parse.result c.args.ty c.args.fields.now c.args.payload.now c.parse.ensures.found c.parse.ensures.refused
