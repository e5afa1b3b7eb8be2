use Rattle.std.proofs.Common.{◌<◌, ℕ}
use Rattle.std.specs.Prelude.{slice_index_or}
use Rattle.worker_rounds.specs.Passes.{HaveEnded}
use Rattle.worker_rounds.specs.Rounds.{Work}
use Rattle.worker_rounds.proofs.run.all_ended.Given as goal

abbrev pub invariant-loop-worker : goal.invariant-loop-worker
invariant-loop-worker g l = (i : ℕ) (d : Work g.row.M.Denot) → i < l.worker-index → HaveEnded g.M.Member.ended (slice_index_or l.workers i d).members
