use Rattle.std.proofs.Common.{◌∙◌, sym, ap, subst, decimal}
use Rattle.std.proofs.lemmas.Fmt.{parse-decimal}
use Rattle.std.specs.Str.{IsUtf8}
use Rattle.run_steps.proofs.Spelling.{decimal_is_text, equals_same, same_ok}
use Rattle.run_steps.proofs.number.number.Goals as goal

pub returns-in_default : goal.returns-in_default
returns-in_default c = λ n small same. c.in_default.ensures.cases.0 (subst IsUtf8 (sym same) (decimal_is_text n small))

pub returns-in_default-parse : goal.returns-in_default-parse
returns-in_default-parse c = λ n small same.
    let parsed = parse-decimal 64 n c.in-Ok.text.now c.parse.result small small (c.in-Ok.ensures.cases.0 ∙ same) c.parse.ensures.value.0 in
    let is = same_ok c.parse.result c.in-Ok-parse.number n c.in-Ok-parse.is parsed in
    let text = c.as_bytes.ensures.value ∙ c.format.ensures.text ∙ ap decimal is ∙ sym same in
    let equal = equals_same c.as_bytes.result.now c.args.digits.now text in
    cc

pub returns-in_default-parse-2 : goal.returns-in_default-parse-2
returns-in_default-parse-2 c = λ n small same.
    let parsed = parse-decimal 64 n c.in-Ok.text.now c.parse.result small small (c.in-Ok.ensures.cases.0 ∙ same) c.parse.ensures.value.0 in
    cc
