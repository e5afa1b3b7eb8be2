use Rattle.std.proofs.Common.{◌≡◌, ℕ, ◌<◌}
use Rattle.std.specs.Prelude.{slice_get, Some}
use mathlib.Core.List.{IsPrefix}
use Rattle.cs_base.specs.declared.wire_end.WireEnd.{WireEnd}
use Rattle.proxy_members.proofs.differing.first_that_differs.Given as goal

abbrev pub invariant-loop-end : goal.invariant-loop-end
invariant-loop-end g l = (k : ℕ) (end : WireEnd g.row.O.Denot g.row.I.Denot) → k < l.end-index → slice_get l.ends k ≡ Some end → IsPrefix end.got end.sent
