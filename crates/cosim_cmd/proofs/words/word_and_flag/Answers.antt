use Rattle.std.proofs.Common.{rules, ◌≡◌, ◌∙◌, ap, sym, subst, true, false, true≢false, [], Some, codes}
use Rattle.clap.specs.Walk.{rows_of}
use Rattle.clap.specs.Simple.{App, app_of, is_simple, matches_of}
use Rattle.clap.specs.Matches.{found_of}
use Rattle.clap.specs.Values.{kind_of}
use Rattle.clap.specs.Kinds.{HasKind}
use Rattle.clap.specs.Faults.{fault_of, is_simple_and_free}
use Rattle.clap.specs.declared.error.kind.ErrorKind.TheVariants as kind
use Rattle.clap.specs.Matches.{one_text}
use Rattle.cosim_cmd.specs.Sentence.{Text, texts}
use Rattle.cosim_cmd.specs.Said.{flag_name, described_with_flag}
use Rattle.cosim_cmd.proofs.ClapWords.{AreTexts-texts}
use Rattle.cosim_cmd.proofs.FlagWords.{is_described, words_refused, has_file, answered}
use Rattle.cosim_cmd.proofs.words.word_and_flag.Goals as goal

pub returns-in_default : goal.returns-in_default
returns-in_default c =
    let which = c.args.flag in
    let name = c.args.name.now in
    let words = texts c.args.words.now in
    let app = app_of c.in_ok-command.command in
    let app_is : app ≡ described_with_flag which name = c.in_ok-command.ensures in
    let none : fault_of app words ≡ [] = c.in-Ok.ensures.kinds (ap is_simple_and_free app_is ∙ is_described which name) in
    let rows : rows_of (found_of c.in-Ok.matches) ≡ matches_of app words = (c.in-Ok.ensures.matches (ap is_simple app_is)).0 in
    absurd (has_file which name words (AreTexts-texts c.args.words.now) app app_is none (found_of c.in-Ok.matches) rows c.in_default.ensures)

pub returns-in-Ok : goal.returns-in-Ok
returns-in-Ok c =
    let which = c.args.flag in
    let name = c.args.name.now in
    let words = texts c.args.words.now in
    let app = app_of c.in_ok-command.command in
    let app_is : app ≡ described_with_flag which name = c.in_ok-command.ensures in
    let none : fault_of app words ≡ [] = c.in-Ok.ensures.kinds (ap is_simple_and_free app_is ∙ is_described which name) in
    let rows : rows_of (found_of c.in-Ok.matches) ≡ matches_of app words = (c.in-Ok.ensures.matches (ap is_simple app_is)).0 in
    let found = found_of c.in-Ok.matches in
    let when_true : one_text found (flag_name which) ≡ Some (codes "true") → c.get_flag.result ≡ true = subst (λ (id : Text). one_text found id ≡ Some (codes "true") → c.get_flag.result ≡ true) c.flag_name.ensures c.get_flag.ensures.value in
    let when_false : one_text found (flag_name which) ≡ Some (codes "false") → c.get_flag.result ≡ false = subst (λ (id : Text). one_text found id ≡ Some (codes "false") → c.get_flag.result ≡ false) c.flag_name.ensures c.get_flag.ensures.other in
    answered which name words (AreTexts-texts c.args.words.now) app app_is none (found_of c.in-Ok.matches) rows c.in-Some.word.now c.get_flag.result c.in-Some.ensures when_true when_false

pub returns : goal.returns
returns c =
    let which = c.args.flag in
    let name = c.args.name.now in
    let words = texts c.args.words.now in
    let app_is : app_of c.in_ok-command.command ≡ described_with_flag which name = c.in_ok-command.ensures in
    let other : kind_of c.in-Err.error ≡ kind.OutOfMemory → ⊥ = λ e. let bad : c.eq.result ≡ true = search rules in true≢false (sym bad ∙ c.if-eq.false) in
    let fails : HasKind (fault_of (described_with_flag which name) words) c.in-Err.error =
    subst (λ (a : App). HasKind (fault_of a words) c.in-Err.error) app_is (c.in-Err.ensures.kinds (ap is_simple_and_free app_is ∙ is_described which name)) in
    words_refused which name words (AreTexts-texts c.args.words.now) (kind_of c.in-Err.error) fails other
