use Rattle.std.proofs.Common.{arith}
use Rattle.mesh_core.proofs.Between.{within, carrying, has_put}
use Rattle.mesh_core.proofs.mesh.Mesh.put.Goals as goal

pub index_mut-requires : goal.index_mut-requires
index_mut-requires g c = omega (arith, within g.V.Device.behaviour g.V.Device.settled c.self.inside.runners.items c.self.inside.ways.items c.self.inside.carriers.items c.args.self.now c.self.view_is c.requires c.args.channel (let past = c.if-channel-len.false in let len = c.len.ensures in omega arith))

pub put-requires : goal.put-requires
put-requires g c = carrying g.V.Device.behaviour g.V.Device.settled c.self.inside.runners.items c.self.inside.ways.items c.self.inside.carriers.items c.args.self.now c.self.view_is c.requires c.args.channel (let past = c.if-channel-len.false in let len = c.len.ensures in omega arith) c.index_mut.result.now c.index_mut.ensures.value

pub returns : goal.returns
returns g c = has_put g.V.Device.behaviour g.V.Device.settled c.self.inside.runners.items c.self.inside.ways.items c.self.inside.carriers.items c.args.self.now c.self.view_is c.requires c.args.channel (let past = c.if-channel-len.false in let len = c.len.ensures in omega arith) c.index_mut.result.now c.index_mut.ensures.value c.put.new.self c.put.result c.put.ensures
