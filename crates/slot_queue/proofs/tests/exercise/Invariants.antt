use Rattle.std.proofs.Common.{◌≡◌}
use Rattle.slot_queue.specs.Rising.{IsRising}
use Rattle.slot_queue.proofs.tests.exercise.Given as goal

abbrev pub invariant-loop : goal.invariant-loop
invariant-loop l = (l.producer.queue ≡ l.queue.name) × (l.consumer.queue ≡ l.queue.name) × IsRising l.producer.kind l.producer.sent 1

abbrev pub invariant-loop-2 : goal.invariant-loop-2
invariant-loop-2 l = (l.producer.queue ≡ l.queue.name) × (l.consumer.queue ≡ l.queue.name) × IsRising l.producer.kind l.producer.sent 1
