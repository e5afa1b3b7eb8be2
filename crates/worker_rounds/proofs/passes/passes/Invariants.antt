use Rattle.worker_rounds.specs.Passes.{AllFit, EachWent}
use Rattle.worker_rounds.proofs.passes.passes.Given as goal

abbrev pub invariant-loop-made : goal.invariant-loop-made
invariant-loop-made g l = record { went : EachWent g.M.Member.does l.made l.fn.members l.members; fit : AllFit g.M.Member.fits l.members }
