use Rattle.sync_rule.proofs.Looked.{front_ended}
use Rattle.sync_rule.proofs.runner.Runner.ended.Goals as goal

pub returns : goal.returns
returns g c = front_ended g.V.Device.behaviour c.args.self.now c.front.result c.front.ensures.front c.ended.result c.ended.ensures
