use Rattle.worker_rounds.proofs.Working.{first_more}
use Rattle.worker_rounds.proofs.run.first_fault.Goals as goal
use Rattle.std.proofs.Common.{subst, sym, ◌+◌}
use Rattle.worker_rounds.specs.Crew.{FirstKept}

pub loop-worker-preserved : goal.loop-worker-preserved
loop-worker-preserved g c = subst (FirstKept c.args.workers.now (c.loop-worker.worker-index + 1)) (sym c.sooner_of-first.ensures) (first_more c.args.workers.now c.loop-worker.worker-index c.worker-item.result c.loop-worker-test.true c.worker-item.is c.loop-worker.first c.fault.result c.fault.ensures c.loop-worker.invariant)
