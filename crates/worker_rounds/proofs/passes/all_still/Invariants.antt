use Rattle.std.proofs.Common.{◌≡◌, ◌<◌, ℕ}
use Rattle.std.specs.Prelude.{slice_index_or}
use Rattle.worker_rounds.proofs.passes.all_still.Given as goal

abbrev pub invariant-loop-member : goal.invariant-loop-member
invariant-loop-member g l = (i : ℕ) (d : g.row.M.Denot) → i < l.member-index → g.M.Member.still (slice_index_or l.members i d) ≡ 64
