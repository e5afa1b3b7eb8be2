use Rattle.sb_message.proofs.Spellings.{only_from}
use Rattle.sb_message.proofs.Faults.{upper_from}
use Rattle.sb_message.proofs.reading.decode.Goals as goal

pub returns-clause-only : goal.returns-clause-only
returns-clause-only c = only_from c.parse.result c.args.kind c.args.bytes.now c.parse.ensures.found c.parse.ensures.refused

pub returns-clause-upper : goal.returns-clause-upper
returns-clause-upper c = upper_from c.parse.result c.args.kind c.args.bytes.now c.parse.ensures.refused
