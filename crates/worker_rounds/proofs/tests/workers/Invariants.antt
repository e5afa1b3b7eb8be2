use Rattle.std.proofs.Common.{◌≤◌}
use Rattle.worker_rounds.specs.Crew.{AreSound}
use Rattle.worker_rounds.specs.declared.tests.Countdown.{Countdown}
use Rattle.worker_rounds.proofs.tests.workers.Given as goal

abbrev pub invariant-loop-number : goal.invariant-loop-number
invariant-loop-number l = AreSound (λ (member : Countdown). member.still ≤ 64) l.made.items
