use Rattle.worker_rounds.specs.Crew.{FirstKept}
use Rattle.worker_rounds.proofs.run.first_fault.Given as goal

abbrev pub invariant-loop-worker : goal.invariant-loop-worker
invariant-loop-worker g l = FirstKept l.workers l.worker-index l.first
