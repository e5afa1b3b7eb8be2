use Rattle.slot_queue.proofs.Offers.{offered}
use Rattle.slot_queue.proofs.Rising.{rising_sync}
use Rattle.slot_queue.proofs.tests.offer.Goals as goal

pub push-requires-clause-stream : goal.push-requires-clause-stream
push-requires-clause-stream c = (rising_sync c.args.end.now.kind c.args.end.now.sent c.args.at c.requires.1).stream

pub returns : goal.returns
returns c = offered _ c.push.result c.args.queue.now.name c.args.end.now c.push.new.end c.args.at c.push.ensures c.requires.0 c.requires.1
