use Rattle.std.proofs.Common.{◌≡◌, length, ap, ◌∙◌, subst, arith}
use Rattle.mesh_core.specs.State.{State}
use Rattle.mesh_core.specs.Walk.{CarriesEach}
use Rattle.mesh_core.proofs.Walked.{none_carried, one_more_carries, walk_mesh}
use Rattle.mesh_core.proofs.mesh.Mesh.carry_each.Goals as goal

pub channels-init : goal.channels-init
channels-init g c = none_carried g.V.Device.behaviour c.args.awake c.args.self.now c.none-woken.result.moved c.none-woken.ensures

pub carry-requires : goal.carry-requires
carry-requires g c = walk_mesh g.V.Device.behaviour g.V.Device.settled g.met.V.Device.lawful c.args.self.now c.channels.self c.channels.invariant.went.steps c.requires c.channels.invariant.went.walk

pub channels-preserved : goal.channels-preserved
channels-preserved g c = one_more_carries g.V.Device.behaviour c.args.awake c.channels.channel c.args.self.now c.channels.self c.carry.new.self c.channels.woken.moved c.in_ok-woken.ensures.0 c.in_ok-woken.woken.moved c.in_ok-woken.ensures.2 c.channels.invariant c.in_ok-woken.ensures.1

pub returns : goal.returns
returns g c =
    let end : c.channels.channel ≡ length c.self.inside.ways.items = (let len = c.len-channels.ensures in omega arith) in
    subst (λ n. CarriesEach g.V.Device.behaviour c.args.awake n c.args.self.now c.channels.self c.channels.woken.moved) (end ∙ ap (λ (mesh : State _). length mesh.ways) c.self.view_is) c.channels.invariant
