use Rattle.std.proofs.Common.{◌≡◌}
use Rattle.slot_queue.specs.Rising.{IsRising}
use Rattle.slot_queue.proofs.tests.fill.Given as goal

abbrev pub invariant-loop-sent : goal.invariant-loop-sent
invariant-loop-sent l = (l.end.queue ≡ l.queue.name) × IsRising l.end.kind l.end.sent l.at
