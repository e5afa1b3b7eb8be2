use Rattle.crew_members.proofs.Turned.{component_turned, sending_turned, receiving_turned, component_broke, sending_broke, receiving_broke}
use Rattle.crew_members.proofs.hand.HandMember.turn.Goals as goal

pub returns-in-Component-clause-turned : goal.returns-in-Component-clause-turned
returns-in-Component-clause-turned g c = component_turned g.C.Member.does g.O.Member.does g.I.Member.does c.args.self.now c.turn.result c.in-Component.component c.turn.new.self c.in-Component.is c.turn.ensures.turned

pub returns-in-Component-clause-failed : goal.returns-in-Component-clause-failed
returns-in-Component-clause-failed g c = component_broke g.C.Member.fails g.O.Member.fails g.I.Member.fails c.args.self.now c.turn.result c.in-Component.component c.turn.new.self c.in-Component.is c.turn.ensures.failed

pub returns-in-Sending-clause-turned : goal.returns-in-Sending-clause-turned
returns-in-Sending-clause-turned g c = sending_turned g.C.Member.does g.O.Member.does g.I.Member.does c.args.self.now c.turn-in-Sending.result c.in-Sending.end c.turn-in-Sending.new.self c.in-Sending.is c.turn-in-Sending.ensures.turned

pub returns-in-Sending-clause-failed : goal.returns-in-Sending-clause-failed
returns-in-Sending-clause-failed g c = sending_broke g.C.Member.fails g.O.Member.fails g.I.Member.fails c.args.self.now c.turn-in-Sending.result c.in-Sending.end c.turn-in-Sending.new.self c.in-Sending.is c.turn-in-Sending.ensures.failed

pub returns-in-Receiving-clause-turned : goal.returns-in-Receiving-clause-turned
returns-in-Receiving-clause-turned g c = receiving_turned g.C.Member.does g.O.Member.does g.I.Member.does c.args.self.now c.turn-in-Receiving.result c.in-Receiving.end c.turn-in-Receiving.new.self c.in-Receiving.is c.turn-in-Receiving.ensures.turned

pub returns-in-Receiving-clause-failed : goal.returns-in-Receiving-clause-failed
returns-in-Receiving-clause-failed g c = receiving_broke g.C.Member.fails g.O.Member.fails g.I.Member.fails c.args.self.now c.turn-in-Receiving.result c.in-Receiving.end c.turn-in-Receiving.new.self c.in-Receiving.is c.turn-in-Receiving.ensures.failed
