use Rattle.std.proofs.Common.{rules, ◌≡◌, ◌∙◌, ap, sym, subst, true, true≢false, []}
use Rattle.clap.specs.Walk.{rows_of}
use Rattle.clap.specs.Simple.{App, app_of, is_simple, matches_of}
use Rattle.clap.specs.Matches.{found_of}
use Rattle.clap.specs.Values.{kind_of}
use Rattle.clap.specs.Kinds.{HasKind}
use Rattle.clap.specs.Faults.{fault_of, is_simple_and_free}
use Rattle.clap.specs.declared.error.kind.ErrorKind.TheVariants as kind
use Rattle.cosim_cmd.specs.Sentence.{texts}
use Rattle.cosim_cmd.specs.Said.{described_with_schedule}
use Rattle.cosim_cmd.proofs.ClapWords.{AreTexts-texts}
use Rattle.cosim_cmd.proofs.PairWords.{is_described, words_refused, has_file, has_schedule, answered}
use Rattle.cosim_cmd.proofs.words.file_pair.Goals as goal

pub returns-in_default : goal.returns-in_default
returns-in_default c =
    let name = c.args.name.now in
    let words = texts c.args.words.now in
    let app = app_of c.in_ok-command.command in
    let app_is : app ≡ described_with_schedule name = c.in_ok-command.ensures in
    let none : fault_of app words ≡ [] = c.in-Ok.ensures.kinds (ap is_simple_and_free app_is ∙ is_described name) in
    let rows : rows_of (found_of c.in-Ok.matches) ≡ matches_of app words = (c.in-Ok.ensures.matches (ap is_simple app_is)).0 in
    absurd (has_file name words (AreTexts-texts c.args.words.now) app app_is none (found_of c.in-Ok.matches) rows c.in_default.ensures)

pub returns-in_default-get_str : goal.returns-in_default-get_str
returns-in_default-get_str c =
    let name = c.args.name.now in
    let words = texts c.args.words.now in
    let app = app_of c.in_ok-command.command in
    let app_is : app ≡ described_with_schedule name = c.in_ok-command.ensures in
    let none : fault_of app words ≡ [] = c.in-Ok.ensures.kinds (ap is_simple_and_free app_is ∙ is_described name) in
    let rows : rows_of (found_of c.in-Ok.matches) ≡ matches_of app words = (c.in-Ok.ensures.matches (ap is_simple app_is)).0 in
    absurd (has_schedule name words (AreTexts-texts c.args.words.now) app app_is none (found_of c.in-Ok.matches) rows c.in_default-get_str.ensures)

pub returns-in-Ok : goal.returns-in-Ok
returns-in-Ok c =
    let name = c.args.name.now in
    let words = texts c.args.words.now in
    let app = app_of c.in_ok-command.command in
    let app_is : app ≡ described_with_schedule name = c.in_ok-command.ensures in
    let none : fault_of app words ≡ [] = c.in-Ok.ensures.kinds (ap is_simple_and_free app_is ∙ is_described name) in
    let rows : rows_of (found_of c.in-Ok.matches) ≡ matches_of app words = (c.in-Ok.ensures.matches (ap is_simple app_is)).0 in
    answered name words (AreTexts-texts c.args.words.now) app app_is none (found_of c.in-Ok.matches) rows c.in-Some.file.now c.in-Some-get_str.schedule.now c.in-Some.ensures c.in-Some-get_str.ensures

pub returns : goal.returns
returns c =
    let name = c.args.name.now in
    let words = texts c.args.words.now in
    let app_is : app_of c.in_ok-command.command ≡ described_with_schedule name = c.in_ok-command.ensures in
    let other : kind_of c.in-Err.error ≡ kind.OutOfMemory → ⊥ = λ e. let bad : c.eq.result ≡ true = search rules in true≢false (sym bad ∙ c.if-eq.false) in
    let fails : HasKind (fault_of (described_with_schedule name) words) c.in-Err.error =
    subst (λ (a : App). HasKind (fault_of a words) c.in-Err.error) app_is (c.in-Err.ensures.kinds (ap is_simple_and_free app_is ∙ is_described name)) in
    words_refused name words (AreTexts-texts c.args.words.now) (kind_of c.in-Err.error) fails other
