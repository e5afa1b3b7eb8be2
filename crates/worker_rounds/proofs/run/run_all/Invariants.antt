use Rattle.worker_rounds.specs.Crew.{AreSound, AllWorked}
use Rattle.worker_rounds.proofs.run.run_all.Given as goal

abbrev pub invariant-loop : goal.invariant-loop
invariant-loop g l = record { worked : AllWorked g.M.Member.does g.M.Member.fails g.M.Member.fits l.fn.workers l.workers; sound : AreSound g.M.Member.fits l.workers }
