use Rattle.sync_rule.proofs.Ready.{take_there, not_empty, may_receive, not_past, take_there_all, after_take_is}
use Rattle.sync_rule.proofs.Steps.{on_ok}
use Rattle.sync_rule.proofs.runner.Runner.take.Goals as goal

pub take_first-requires : goal.take_first-requires
take_first-requires g c = take_there g.V.Device.behaviour g.V.Device.settled c.args.self.now c.requires.ready c.args.port c.args.at c.requires.enabled

pub returns-in_default : goal.returns-in_default
returns-in_default g c = absurd (not_empty g.V.Device.behaviour g.V.Device.settled c.args.self.now c.requires.ready c.args.port c.args.at c.requires.enabled c.in_default.ensures)

pub take-requires-clause-receivable : goal.take-requires-clause-receivable
take-requires-clause-receivable g c = may_receive g.V.Device.behaviour g.V.Device.settled c.args.self.now c.requires.ready c.args.port c.in-Some.message c.in-Some.ensures.head

pub take-requires-clause-not_past : goal.take-requires-clause-not_past
take-requires-clause-not_past g c = not_past g.V.Device.behaviour g.V.Device.settled c.args.self.now c.requires.ready c.args.port c.args.at c.requires.enabled

pub carry_out-requires-clause-there : goal.carry_out-requires-clause-there
carry_out-requires-clause-there g c = take_there_all g.V.Device.behaviour g.V.Device.settled c.args.self.now c.requires.ready g.met.V.Device.lawful c.args.port c.args.at c.in-Some.message c.take.new.self c.take.new.out c.requires.enabled c.in-Some.ensures.head c.in_ok-take.ensures

pub returns : goal.returns
returns g c = on_ok c.carry_out.result (after_take_is g.V.Device.behaviour g.V.Device.settled c.args.self.now c.requires.ready c.args.port c.args.at c.in-Some.message c.take.new.self c.take_first.new.self c.take.new.out c.carry_out.new.self c.requires.enabled c.in-Some.ensures.head c.in-Some.ensures.is c.in_ok-take.ensures) c.carry_out.ensures
