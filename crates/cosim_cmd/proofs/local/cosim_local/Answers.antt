use Rattle.std.proofs.Common.{sym, ap, ◌∙◌, inr}
use Rattle.std.specs.Prelude.{Err}
use Rattle.cosim_cmd.proofs.Accepting.{answered, is_out}
use Rattle.cosim_cmd.proofs.local.cosim_local.Goals as goal

pub returns-in-Err-clause-out_failed : goal.returns-in-Err-clause-out_failed
returns-in-Err-clause-out_failed g c =
    λ status. c.run.ensures.out_failed (c.in-Err.is ∙ ap Err (is_out c.in-Err.refusal (sym c.report.ensures.status ∙ status)))

pub returns-in-Err-clause-complete : goal.returns-in-Err-clause-complete
returns-in-Err-clause-complete g c =
    λ accepted files out. inr (c.report.ensures.status ∙ answered _ _ _ c.in-Err.refusal c.in-Err.ensures.refused (λ is. out (c.run.ensures.out_failed (c.in-Err.is ∙ ap Err is)).cut.failed) accepted files)
