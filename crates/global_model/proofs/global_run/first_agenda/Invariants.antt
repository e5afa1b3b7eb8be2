use Rattle.std.proofs.Common.{◌≡◌, ◌<◌, ℕ, Some, true, length}
use Rattle.std.specs.Prelude.{IfSome, slice_get}
use Rattle.device_api.specs.declared.component.Component.{Component}
use Rattle.global_model.specs.Agenda.{has}
use Rattle.global_model.proofs.global_run.first_agenda.Given as goal

abbrev pub invariant-loop-index : goal.invariant-loop-index
invariant-loop-index g l =
    ((d : ℕ) (component : Component g.row.V.Denot) → d < l.index → slice_get l.components d ≡ Some component → IfSome (g.V.Device.behaviour.due component.device) (λ u. has u d l.agenda ≡ true))
    × (length l.agenda ≡ length l.components)
