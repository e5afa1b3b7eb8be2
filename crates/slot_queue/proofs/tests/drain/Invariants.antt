use Rattle.std.proofs.Common.{◌≡◌}
use Rattle.slot_queue.proofs.tests.drain.Given as goal

abbrev pub invariant-loop-received : goal.invariant-loop-received
invariant-loop-received l = l.end.queue ≡ l.queue.name
