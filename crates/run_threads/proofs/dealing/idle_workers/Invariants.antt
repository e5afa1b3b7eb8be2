use Rattle.run_threads.specs.Dealing.{AreIdle}
use Rattle.run_threads.proofs.dealing.idle_workers.Given as goal

abbrev pub invariant-loop-number : goal.invariant-loop-number
invariant-loop-number g l = AreIdle l.number l.workers.items
