use Rattle.std.proofs.Common.{◌≡◌, ◌<◌, ℕ, Some, vec_len}
use Rattle.std.specs.Prelude.{slice_get}
use Rattle.global_model.specs.Inboxes.{end_at}
use Rattle.global_model.specs.Routes.{route_from}
use Rattle.global_model.proofs.routes.routes_out_of.Given as goal

abbrev pub invariant-loop-port : goal.invariant-loop-port
invariant-loop-port l = (vec_len l.routes ≡ l.port) × ((p : ℕ) → p < l.port → slice_get l.routes.items p ≡ Some (route_from l.links (end_at l.component p)))
