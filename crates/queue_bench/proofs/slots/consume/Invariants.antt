use Rattle.std.proofs.Common.{◌≡◌}
use Rattle.queue_bench.proofs.slots.consume.Given as goal

abbrev pub invariant-loop : goal.invariant-loop
invariant-loop g l = l.end.queue ≡ l.queue.name
