use Rattle.sync_rule.proofs.Intros.{judged}
use Rattle.sync_rule.proofs.incoming.is_wrong.Goals as goal

pub returns : goal.returns
returns c = judged c.args.introduced c.args.plan c.args.message.now c.is_introduction.result c.is_introduction.ensures c.if-introduced.false
