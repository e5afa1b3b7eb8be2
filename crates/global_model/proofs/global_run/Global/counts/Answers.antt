use Rattle.std.proofs.Common.{◌∙◌}
use Rattle.global_model.proofs.StartAndEnd.{if_ok_weaker}
use Rattle.global_model.proofs.Tallied.{tallied_ends}
use Rattle.global_model.proofs.global_run.Global.counts.Goals as goal

pub returns : goal.returns
returns g c = if_ok_weaker c.counts_before.result _ _ (λ counts is system at. is ∙ tallied_ends c.args.self.now.tallies at.stands at.tallied) c.counts_before.ensures
