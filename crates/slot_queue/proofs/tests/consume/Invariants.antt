use Rattle.std.proofs.Common.{◌≡◌}
use Rattle.slot_queue.proofs.tests.consume.Given as goal

abbrev pub invariant-loop-k : goal.invariant-loop-k
invariant-loop-k g l = l.end.queue ≡ l.queue.name

abbrev pub invariant-loop : goal.invariant-loop
invariant-loop g l = l.end.queue ≡ l.queue.name
