use Rattle.std.proofs.Common.{ℕ, ◌≡◌, ◌↔◌, sym, subst, ◌∙◌, inr, arith}
use Rattle.cosim_cmd.specs.Sentence.{texts}
use Rattle.cosim_cmd.specs.RunWords.{SaysNoRun}
use Rattle.cosim_cmd.proofs.Accepting.{is_out}
use Rattle.cosim_cmd.proofs.Threading.{run_usage, run_answered}
use Rattle.cosim_cmd.proofs.run_command.cosim_run.Goals as goal

pub returns-in-Ok-clause-usage : goal.returns-in-Ok-clause-usage
returns-in-Ok-clause-usage g c =
    λ other. (λ is. absurd (let no : 0 ≡ 2 → ⊥ = omega arith in no is), λ none. absurd (none c.in-Ok.ensures.done.fact.run c.in-Ok.ensures.done.fact.says))

pub returns-in-Err-clause-usage : goal.returns-in-Err-clause-usage
returns-in-Err-clause-usage g c =
    λ other. subst (λ (n : ℕ). (n ≡ 2) ↔ SaysNoRun (texts c.args.words.now)) (sym c.report.ensures.status) (run_usage _ _ _ _ c.in-Err.refusal c.in-Err.ensures.refused (λ is. other (c.report.ensures.status ∙ is)))

pub returns-in-Err-clause-out_failed : goal.returns-in-Err-clause-out_failed
returns-in-Err-clause-out_failed g c =
    λ status. c.in-Err.ensures.out_failed (is_out c.in-Err.refusal (sym c.report.ensures.status ∙ status))

pub returns-in-Err-clause-complete : goal.returns-in-Err-clause-complete
returns-in-Err-clause-complete g c =
    λ can files out hold. inr (c.report.ensures.status ∙ run_answered _ _ _ _ c.in-Err.refusal c.in-Err.ensures.refused (λ is. out (c.in-Err.ensures.out_failed is).cut.failed) can files hold)
