use Rattle.sync_rule.proofs.Ready.{tick_there_all, after_tick_is}
use Rattle.sync_rule.proofs.runner.Runner.tick.Goals as goal

pub carry_out-requires-clause-there : goal.carry_out-requires-clause-there
carry_out-requires-clause-there g c = tick_there_all g.V.Device.behaviour g.V.Device.settled c.args.self.now c.requires.ready g.met.V.Device.lawful c.args.at c.tick.new.self c.tick.new.out c.requires.enabled c.in_ok-tick.ensures

pub returns-clause-after : goal.returns-clause-after
returns-clause-after g c = (after_tick_is g.V.Device.behaviour g.V.Device.settled c.args.self.now c.requires.ready c.args.at c.tick.new.self c.tick.new.out c.carry_out.new.self c.in_ok-tick.ensures c.in_ok-carry_out.ensures)
