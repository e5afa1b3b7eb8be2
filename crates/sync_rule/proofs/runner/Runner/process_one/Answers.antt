use Rattle.sync_rule.proofs.Ran.{one_ran, ready_now}
use Rattle.sync_rule.proofs.runner.Runner.process_one.Goals as goal

pub process-requires-clause-ready : goal.process-requires-clause-ready
process-requires-clause-ready g c = ready_now g.V.Device.behaviour g.V.Device.settled c.args.self.now c.requires.ready

pub returns : goal.returns
returns g c = one_ran g.V.Device.behaviour c.args.self.now c.process.new.self c.args.next c.requires.enabled c.in_ok-process.ensures
