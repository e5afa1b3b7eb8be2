use Rattle.std.proofs.Common.{◌≡◌, length, ap, ◌∙◌, subst, arith}
use Rattle.mesh_core.specs.State.{State}
use Rattle.mesh_core.specs.Walk.{RunsEach}
use Rattle.mesh_core.proofs.Walked.{none_run, one_more_runs, walk_mesh}
use Rattle.mesh_core.proofs.mesh.Mesh.run_each.Goals as goal

pub components-init : goal.components-init
components-init g c = none_run g.V.Device.behaviour c.args.awake c.args.self.now c.none-woken.result.moved c.none-woken.ensures

pub run_on-requires : goal.run_on-requires
run_on-requires g c = walk_mesh g.V.Device.behaviour g.V.Device.settled g.met.V.Device.lawful c.args.self.now c.components.self c.components.invariant.went.steps c.requires c.components.invariant.went.walk

pub components-preserved : goal.components-preserved
components-preserved g c = one_more_runs g.V.Device.behaviour c.args.awake c.components.component c.args.self.now c.components.self c.run_on.new.self c.components.woken.moved c.in_ok-moved.moved c.after-woken.result.moved c.after-woken.ensures c.components.invariant c.in_ok-moved.ensures

pub returns : goal.returns
returns g c =
    let end : c.components.component ≡ length c.self.inside.runners.items = (let len = c.len-components.ensures in omega arith) in
    subst (λ n. RunsEach g.V.Device.behaviour c.args.awake n c.args.self.now c.components.self c.components.woken.moved) (end ∙ ap (λ (mesh : State _). length mesh.runners) c.self.view_is) c.components.invariant
