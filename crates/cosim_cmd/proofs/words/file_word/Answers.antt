use Rattle.std.proofs.Common.{rules, ◌≡◌, ◌∙◌, ap, sym, subst, true, true≢false, [], codes}
use Rattle.clap.specs.Walk.{rows_of, first_of}
use Rattle.clap.specs.Simple.{App, app_of, is_simple, matches_of}
use Rattle.clap.specs.Matches.{found_of}
use Rattle.clap.specs.Values.{kind_of}
use Rattle.clap.specs.Kinds.{HasKind}
use Rattle.clap.specs.Faults.{fault_of, is_simple_and_free}
use Rattle.clap.specs.declared.error.kind.ErrorKind.TheVariants as kind
use Rattle.clap.proofs.WalkLemmas.{first_value-rows}
use Rattle.cosim_cmd.specs.Sentence.{texts, file_word}
use Rattle.cosim_cmd.specs.Said.{described}
use Rattle.cosim_cmd.proofs.ClapWords.{is_described, AreTexts-texts, file_taken, taken, refused}
use Rattle.cosim_cmd.proofs.words.file_word.Goals as goal

pub returns-in-Ok : goal.returns-in-Ok
returns-in-Ok c =
    let name = c.args.name.now in
    let words = texts c.args.words.now in
    let app_is : app_of c.in_ok-command.command ≡ described name = c.in_ok-command.ensures in
    let none : fault_of (described name) words ≡ [] =
    sym (ap (λ (a : App). fault_of a words) app_is) ∙ c.in-Ok.ensures.kinds (ap is_simple_and_free app_is ∙ is_described name) in
    let rows : rows_of (found_of c.in-Ok.matches) ≡ matches_of (described name) words =
    (c.in-Ok.ensures.matches (ap is_simple app_is)).0 ∙ ap (λ (a : App). matches_of a words) app_is in
    c.get_str.ensures ∙ first_value-rows (found_of c.in-Ok.matches) (codes "file") ∙ ap (first_of (codes "file")) rows
    ∙ taken name words (file_word words) (file_taken name words (AreTexts-texts c.args.words.now)) none

pub returns : goal.returns
returns c =
    let name = c.args.name.now in
    let words = texts c.args.words.now in
    let app_is : app_of c.in_ok-command.command ≡ described name = c.in_ok-command.ensures in
    let other : kind_of c.in-Err.error ≡ kind.OutOfMemory → ⊥ = λ e. let bad : c.eq.result ≡ true = search rules in true≢false (sym bad ∙ c.if-eq.false) in
    let fails : HasKind (fault_of (described name) words) c.in-Err.error =
    subst (λ (a : App). HasKind (fault_of a words) c.in-Err.error) app_is (c.in-Err.ensures.kinds (ap is_simple_and_free app_is ∙ is_described name)) in
    refused name words (file_word words) (kind_of c.in-Err.error) (file_taken name words (AreTexts-texts c.args.words.now)) fails other
