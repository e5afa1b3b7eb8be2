use Rattle.worker_rounds.specs.Passes.{AllFit, PassSoFar}
use Rattle.worker_rounds.proofs.passes.pass.Given as goal

abbrev pub invariant-loop-place : goal.invariant-loop-place
invariant-loop-place g l = record { so_far : PassSoFar g.M.Member.does l.place l.fn.members l.members; fit : AllFit g.M.Member.fits l.members }
