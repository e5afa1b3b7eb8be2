use Rattle.std.proofs.Common.{sym, ◌∙◌, arith}
use Rattle.std.proofs.lemmas.Fmt.{decimal_injective}
use Rattle.run_steps.proofs.number.short_number.Goals as goal

pub returns-in_default : goal.returns-in_default
returns-in_default c = λ n small same.
    let known = c.in-Some.ensures in
    let is = decimal_injective _ n known.0 (omega arith) (sym known.1 ∙ same) in
    absurd (omega arith)
