use Rattle.std.proofs.Common.{◌∙◌, ap, subst}
use Rattle.std.specs.Prelude.{IsTrue, ◌↔◌}
use Rattle.sync_laws.specs.Whole.{HaveEnded}
use Rattle.mesh_core.specs.State.{State}
use Rattle.mesh_core.proofs.mesh.Mesh.ended.Goals as goal

pub returns : goal.returns
returns g c = subst (λ l. IsTrue c.all_ended.result ↔ HaveEnded g.V.Device.behaviour l) (c.as_slice.ensures.value ∙ ap (λ (mesh : State _). mesh.runners) c.self.view_is) c.all_ended.ensures
