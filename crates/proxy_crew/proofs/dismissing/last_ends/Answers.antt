use Rattle.std.proofs.Common.{length, ◌%◌}
use Rattle.crew_members.specs.declared.hand.Hand.TheVariants.{Sending, Receiving}
use Rattle.proxy_crew.proofs.Taken.{member_same, sent_before}
use Rattle.proxy_crew.proofs.dismissing.last_ends.Goals as goal

pub unreachable-requires : goal.unreachable-requires
unreachable-requires g c = c.in_default.not-Receiving c.requires.receiving (member_same (c.args.route.receiver % length c.args.workers.now) c.last_at.result (Receiving c.requires.receiving) c.last_at.new.workers c.requires.came.mid c.args.workers.now c.last_at.ensures c.requires.came.received)

pub last_at-requires-2 : goal.last_at-requires-2
last_at-requires-2 g c = record {
  last = Sending c.requires.sending;
  others = c.requires.others;
  came = sent_before c.args.route c.requires.sending c.requires.receiving c.requires.others c.args.workers.now c.requires.came c.last_at.result c.last_at.new.workers c.last_at.ensures;
}

pub unreachable-requires-in_default-last_at : goal.unreachable-requires-in_default-last_at
unreachable-requires-in_default-last_at g c = c.in_default-last_at.not-Sending c.requires.sending (member_same (c.args.route.sender % length c.args.workers.now) c.last_at-2.result (Sending c.requires.sending) c.last_at-2.new.workers c.requires.others c.last_at.new.workers c.last_at-2.ensures (sent_before c.args.route c.requires.sending c.requires.receiving c.requires.others c.args.workers.now c.requires.came c.last_at.result c.last_at.new.workers c.last_at.ensures))
