use Rattle.std.proofs.Common.{◌≡◌}
use Rattle.slot_queue.specs.Rising.{IsRising}
use Rattle.queue_bench.proofs.slots.produce.Given as goal

abbrev pub invariant-loop : goal.invariant-loop
invariant-loop g l = (l.end.queue ≡ l.queue.name) × IsRising l.end.kind l.end.sent 1
