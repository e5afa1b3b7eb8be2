use Rattle.slot_queue.proofs.Rising.{rising_more}
use Rattle.slot_queue.proofs.tests.send.Goals as goal

pub push-requires-clause-stream : goal.push-requires-clause-stream
push-requires-clause-stream c = (rising_more c.args.end.now.kind c.args.end.now.sent 1 c.args.m c.requires.rising c.requires.later c.requires.fits c.requires.time).stream
