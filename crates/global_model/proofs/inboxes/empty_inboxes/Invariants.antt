use Rattle.std.proofs.Common.{◌≡◌, ◌<◌, ℕ, Some, [], length}
use Rattle.std.specs.Prelude.{slice_get}
use Rattle.global_model.proofs.inboxes.empty_inboxes.Given as goal

abbrev pub invariant-loop-port : goal.invariant-loop-port
invariant-loop-port l = (length l.inboxes.items ≡ l._port) × ((p : ℕ) → p < l._port → slice_get l.inboxes.items p ≡ Some [])
