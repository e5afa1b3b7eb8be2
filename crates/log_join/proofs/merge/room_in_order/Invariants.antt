use Rattle.std.proofs.Common.{drop}
use Rattle.log_join.specs.Heads.{IsFrom}
use Rattle.log_join.proofs.merge.room_in_order.Given as goal

abbrev pub invariant-loop-line : goal.invariant-loop-line
invariant-loop-line l = IsFrom l.earliest (drop l.line-index l.log) → IsFrom 0 l.log
