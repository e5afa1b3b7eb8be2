use Rattle.std.proofs.Common.{arith}
use Rattle.mesh_core.proofs.Read.{receiver_within, carrier_within, port_in, has_received, never_wrong}
use Rattle.mesh_core.proofs.mesh.Mesh.poll.Goals as goal

pub index_mut-requires : goal.index_mut-requires
index_mut-requires g c = omega (arith, receiver_within g.V.Device.behaviour g.V.Device.settled c.self.inside.runners.items c.self.inside.ways.items c.self.inside.carriers.items c.args.self.now c.self.view_is c.requires c.args.channel c.index.result.now (let within = c.if-channel-len.false in let len = c.len.ensures in omega arith) c.index.ensures)

pub index_mut-requires-2 : goal.index_mut-requires-2
index_mut-requires-2 g c = omega (arith, carrier_within g.V.Device.behaviour g.V.Device.settled c.self.inside.runners.items c.self.inside.ways.items c.self.inside.carriers.items c.args.self.now c.self.view_is c.requires c.args.channel c.index.result.now (let within = c.if-channel-len.false in let len = c.len.ensures in omega arith) c.index.ensures)

pub poll-requires : goal.poll-requires
poll-requires g c = record { there = port_in g.V.Device.behaviour g.V.Device.settled c.self.inside.runners.items c.self.inside.ways.items c.self.inside.carriers.items c.args.self.now c.self.view_is c.requires c.args.channel c.index.result.now (let within = c.if-channel-len.false in let len = c.len.ensures in omega arith) c.index.ensures c.index_mut-2.result.now c.index_mut-2.ensures.value c.index_mut.result.now c.index_mut.ensures.value }

pub returns-in-Ok : goal.returns-in-Ok
returns-in-Ok g c = has_received g.V.Device.behaviour g.V.Device.settled c.self.inside.runners.items c.self.inside.ways.items c.self.inside.carriers.items c.args.self.now c.self.view_is c.requires c.args.channel c.index.result.now (let within = c.if-channel-len.false in let len = c.len.ensures in omega arith) c.index.ensures c.index_mut-2.result.now c.index_mut-2.ensures.value c.index_mut.result.now c.index_mut.ensures.value c.poll.new.self c.poll.new.rx c.in-Ok.moved c.in-Ok.ensures

pub returns : goal.returns
returns g c = let wrong = rw c.in-Err-WrongIntro.field-0-is at c.in-Err-WrongIntro.ensures in absurd (never_wrong g.V.Device.behaviour g.V.Device.settled c.self.inside.runners.items c.self.inside.ways.items c.self.inside.carriers.items c.args.self.now c.self.view_is c.requires c.args.channel c.index.result.now (let within = c.if-channel-len.false in let len = c.len.ensures in omega arith) c.index.ensures c.index_mut-2.result.now c.index_mut-2.ensures.value c.index_mut.result.now c.index_mut.ensures.value c.poll.new.rx c.in-Err-WrongIntro.field-0-0 c.in-Err-WrongIntro.field-0-1 wrong)
