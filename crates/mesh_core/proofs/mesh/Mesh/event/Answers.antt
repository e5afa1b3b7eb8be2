use Rattle.std.proofs.Common.{◌≡◌, Some, refl, subst, arith}
use Rattle.std.specs.Prelude.{slice_get, slice_set}
use Rattle.std.proofs.lemmas.Option.{slice_get_read}
use Rattle.std.proofs.lemmas.Result.{IfOk-weaker}
use Rattle.run_steps.specs.declared.step.Step.TheVariants.{Event}
use Rattle.mesh_core.specs.State.{State}
use Rattle.mesh_core.specs.Steps.{Steps}
use Rattle.mesh_core.proofs.Ends.{ready_in}
use Rattle.mesh_core.proofs.Stepped.{event_steps}
use Rattle.mesh_core.proofs.mesh.Mesh.event.Goals as goal

pub event-requires : goal.event-requires
event-requires g c =
    let there = slice_get_read c.self.inside.runners.items _ c.args.component c.index_mut.result.now refl (let within = c.if-component-len.false in let len = c.len.ensures in omega arith) c.index_mut.ensures.value in
    record { ready = ready_in g.V.Device.behaviour g.V.Device.settled g.met.V.Device.lawful c.args.self.now c.requires c.args.component c.index_mut.result.now (subst (λ (mesh : State _). slice_get mesh.runners c.args.component ≡ Some c.index_mut.result.now) c.self.view_is there) }

pub returns : goal.returns
returns g c =
    let there = slice_get_read c.self.inside.runners.items _ c.args.component c.index_mut.result.now refl (let within = c.if-component-len.false in let len = c.len.ensures in omega arith) c.index_mut.ensures.value in
    IfOk-weaker c.event.result _ _ (λ done processed. subst (λ (mesh : State _). Steps g.V.Device.behaviour (Event c.args.component) mesh (record { runners = slice_set c.self.inside.runners.items c.args.component c.event.new.self; ways = c.self.inside.ways.items; carriers = c.self.inside.carriers.items }) done) c.self.view_is (event_steps g.V.Device.behaviour (record { runners = c.self.inside.runners.items; ways = c.self.inside.ways.items; carriers = c.self.inside.carriers.items }) c.args.component c.index_mut.result.now c.event.new.self done there processed)) c.event.ensures
