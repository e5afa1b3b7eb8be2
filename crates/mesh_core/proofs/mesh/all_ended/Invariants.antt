use Rattle.std.proofs.Common.{◌≡◌, ◌<◌, ℕ, Some}
use Rattle.std.specs.Prelude.{slice_get}
use Rattle.sync_rule.specs.declared.runner.Runner.{Runner}
use Rattle.sync_rule.specs.Next.{HasEnded}
use Rattle.mesh_core.proofs.mesh.all_ended.Given as goal

abbrev pub invariant-loop-component : goal.invariant-loop-component
invariant-loop-component g l = (p : ℕ) (r : Runner g.row.V.Denot) → p < l._component → slice_get l.runners p ≡ Some r → HasEnded g.V.Device.behaviour r
