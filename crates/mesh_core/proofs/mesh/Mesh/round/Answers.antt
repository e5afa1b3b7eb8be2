use Rattle.mesh_core.proofs.Walked.{rounds, walk_mesh}
use Rattle.mesh_core.proofs.mesh.Mesh.round.Goals as goal

pub carry_each-requires : goal.carry_each-requires
carry_each-requires g c = walk_mesh g.V.Device.behaviour g.V.Device.settled g.met.V.Device.lawful c.args.self.now c.run_each.new.self c.in_ok-ran.ensures.went.steps c.requires c.in_ok-ran.ensures.went.walk

pub returns : goal.returns
returns g c = rounds g.V.Device.behaviour c.args.awake c.args.self.now c.run_each.new.self c.carry_each.new.self c.in_ok-ran.ran.moved c.in_ok-carried.carried.moved c.and.result.moved c.and.ensures c.in_ok-ran.ensures c.in_ok-carried.ensures
