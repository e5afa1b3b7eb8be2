use Rattle.sync_rule.proofs.Steps.{sends_is}
use Rattle.sync_rule.proofs.runner.Runner.send.Goals as goal

pub returns : goal.returns
returns g c = sends_is _ _ _ c.args.self.now c.pass_on.new.self c.args.port c.pass_on.result c.pass_on.ensures
