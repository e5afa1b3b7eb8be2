use Rattle.std.proofs.Common.{◌≡◌, ◌+◌}
use Rattle.slot_queue.specs.Rising.{IsRising}
use Rattle.slot_queue.proofs.tests.produce.Given as goal

abbrev pub invariant-loop-k : goal.invariant-loop-k
invariant-loop-k g l = (l.end.queue ≡ l.queue.name) × IsRising l.end.kind l.end.sent (l.k + 1)

abbrev pub invariant-loop : goal.invariant-loop
invariant-loop g l = (l.end.queue ≡ l.queue.name) × IsRising l.end.kind l.end.sent l.at
