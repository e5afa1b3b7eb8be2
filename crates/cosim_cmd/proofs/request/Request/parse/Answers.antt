use Rattle.std.proofs.Common.{ap, sym, ◌∙◌}
use Rattle.std.specs.Prelude.{option_map}
use Rattle.std.specs.String.{string_bytes}
use Rattle.cosim_cmd.specs.Sentence.{texts}
use Rattle.cosim_cmd.specs.Said.{said}
use Rattle.cosim_cmd.proofs.Requests.{on_files}
use Rattle.cosim_cmd.proofs.request.Request.parse.Goals as goal

pub returns-in-Some-3-clause-requested : goal.returns-in-Some-3-clause-requested
returns-in-Some-3-clause-requested c =
    let sentence = c.in_ok-sentence-in_default-as_str in
    on_files (texts c.args.words.now) (string_bytes c.in-Some.command.now) (texts c.in-Some.own.now) (said c.in-Some-3.sentence) (ap texts c.in-Some.ensures.cases.0) (λ load. c.in_default-as_str.not-load (c.as_str.ensures.value ∙ load)) (sym (ap (option_map said) c.in-Some-3.is) ∙ sentence.ensures)
