use Rattle.std.proofs.Common.{◌∙◌}
use Rattle.global_model.proofs.StartAndEnd.{logs_there}
use Rattle.global_model.proofs.Tallied.{tallied_ends}
use Rattle.global_model.proofs.global_run.Global.into_outcome.Goals as goal

pub returns-clause-logs : goal.returns-clause-logs
returns-clause-logs g c = λ system at. c.in_ok-logs.ensures ∙ logs_there at.stands

pub returns-clause-counts : goal.returns-clause-counts
returns-clause-counts g c = λ system at. c.in_ok-counts.ensures ∙ tallied_ends c.args.self.tallies at.stands at.tallied
