use Rattle.access_proto.proofs.Spellings.{only_from}
use Rattle.access_proto.proofs.reading.read.Goals as goal

pub returns-clause-only : goal.returns-clause-only
returns-clause-only c = only_from c.parse.result c.args.operation c.args.fields.now c.args.payload.now c.parse.ensures.operation c.parse.ensures.found c.parse.ensures.refused
