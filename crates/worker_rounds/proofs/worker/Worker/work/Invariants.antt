use Rattle.worker_rounds.specs.Rounds.{Worked, IsSound}
use Rattle.worker_rounds.proofs.worker.Worker.work.Given as goal

abbrev pub invariant-loop : goal.invariant-loop
invariant-loop g l = record { worked : Worked g.M.Member.does g.M.Member.fails g.M.Member.fits l.fn.self l.self; sound : IsSound g.M.Member.fits l.self }
