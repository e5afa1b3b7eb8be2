use Rattle.std.proofs.Common.{arith}
use Rattle.std.proofs.lemmas.Result.{IfOk-weaker}
use Rattle.mesh_core.proofs.Between.{within, has_taken}
use Rattle.mesh_core.proofs.mesh.Mesh.take.Goals as goal

pub index_mut-requires : goal.index_mut-requires
index_mut-requires g c = omega (arith, within g.V.Device.behaviour g.V.Device.settled c.self.inside.runners.items c.self.inside.ways.items c.self.inside.carriers.items c.args.self.now c.self.view_is c.requires c.args.channel (let past = c.if-channel-len.false in let len = c.len.ensures in omega arith))

pub returns : goal.returns
returns g c = IfOk-weaker c.take.result _ _ (λ moved made. has_taken g.V.Device.behaviour g.V.Device.settled c.self.inside.runners.items c.self.inside.ways.items c.self.inside.carriers.items c.args.self.now c.self.view_is c.requires c.args.channel (let past = c.if-channel-len.false in let len = c.len.ensures in omega arith) c.index_mut.result.now c.index_mut.ensures.value c.take.new.self moved made) c.take.ensures.ok
