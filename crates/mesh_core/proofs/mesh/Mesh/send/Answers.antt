use Rattle.std.proofs.Common.{arith}
use Rattle.mesh_core.proofs.Read.{sender_within, carrier_within, port_out, may_send, has_sent}
use Rattle.mesh_core.proofs.mesh.Mesh.send.Goals as goal

pub index_mut-requires : goal.index_mut-requires
index_mut-requires g c = omega (arith, sender_within g.V.Device.behaviour g.V.Device.settled c.self.inside.runners.items c.self.inside.ways.items c.self.inside.carriers.items c.args.self.now c.self.view_is c.requires c.args.channel c.index.result.now (let within = c.if-channel-len.false in let len = c.len.ensures in omega arith) c.index.ensures)

pub index_mut-requires-2 : goal.index_mut-requires-2
index_mut-requires-2 g c = omega (arith, carrier_within g.V.Device.behaviour g.V.Device.settled c.self.inside.runners.items c.self.inside.ways.items c.self.inside.carriers.items c.args.self.now c.self.view_is c.requires c.args.channel c.index.result.now (let within = c.if-channel-len.false in let len = c.len.ensures in omega arith) c.index.ensures)

pub send-requires-clause-there : goal.send-requires-clause-there
send-requires-clause-there g c = port_out g.V.Device.behaviour g.V.Device.settled c.self.inside.runners.items c.self.inside.ways.items c.self.inside.carriers.items c.args.self.now c.self.view_is c.requires c.args.channel c.index.result.now (let within = c.if-channel-len.false in let len = c.len.ensures in omega arith) c.index.ensures c.index_mut.result.now c.index_mut.ensures.value

pub send-requires-clause-next : goal.send-requires-clause-next
send-requires-clause-next g c = may_send g.V.Device.behaviour g.V.Device.settled c.self.inside.runners.items c.self.inside.ways.items c.self.inside.carriers.items c.args.self.now c.self.view_is c.requires c.args.channel c.index.result.now (let within = c.if-channel-len.false in let len = c.len.ensures in omega arith) c.index.ensures c.index_mut-2.result.now c.index_mut-2.ensures.value c.index_mut.result.now c.index_mut.ensures.value

pub returns : goal.returns
returns g c = has_sent g.V.Device.behaviour g.V.Device.settled c.self.inside.runners.items c.self.inside.ways.items c.self.inside.carriers.items c.args.self.now c.self.view_is c.requires c.args.channel c.index.result.now (let within = c.if-channel-len.false in let len = c.len.ensures in omega arith) c.index.ensures c.index_mut-2.result.now c.index_mut-2.ensures.value c.index_mut.result.now c.index_mut.ensures.value c.send.new.self c.send.new.tx c.send.result c.send.ensures
