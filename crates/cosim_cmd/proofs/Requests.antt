-- What words ask for: a number of stations, or a command on files.
use Rattle.std.proofs.Common.{ℕ, ◌≡◌, ◌+◌, ◌∷◌, Bool, true, false, List, Option, Some, None, refl, suc, decimal, codes, ap, sym, ◌∙◌}
use Rattle.std.specs.Prelude.{find, option_map}
use Rattle.std.specs.List.{range_with_len}
use Rattle.std.specs.Str.{bytes_eq}
use Rattle.std.proofs.lemmas.Slice.Eq.{bytes_eq-Decides}
use Rattle.cosim_cmd.specs.Sentence.{Text, Sentence, sentence_of}
use Rattle.cosim_cmd.specs.Request.{OnFiles, station_count, request_of}

-- the first of some numbers from i on whose digits the word is
unfoldable pub among : List ℕ → ℕ → ℕ → Option ℕ
among word i left = find (λ n. bytes_eq (decimal n) word) (range_with_len i left)

pub among_all : (word : List ℕ) → station_count word ≡ among word 1 30
unfolding station_count among
among_all word = refl

pub among_none : (word : List ℕ) (i : ℕ) → among word i 0 ≡ None
unfolding among
among_none word i = refl

pub among_here : (word : List ℕ) (i left : ℕ) → bytes_eq (decimal i) word ≡ true → among word i (suc left) ≡ Some i
unfolding among
among_here word i left same = rw same refl

pub among_later : (word : List ℕ) (i left : ℕ) → bytes_eq (decimal i) word ≡ false → among word i (suc left) ≡ among word (i + 1) left
unfolding among
among_later word i left other = rw other refl

unlike : (word other : Text) → (word ≡ other → ⊥) → (same : Bool) → bytes_eq word other ≡ same → bytes_eq word other ≡ false
unlike word other differs true is = absurd (differs ((bytes_eq-Decides word other).0 is))
unlike word other differs false is = is

-- the first word is another command's name
pub on_files : (words : List Text) (command : Text) (own : List Text) (s : Sentence) → words ≡ command ∷ own → (command ≡ codes "load" → ⊥) → Some s ≡ sentence_of words → Some (OnFiles s) ≡ request_of words
on_files words command own s is other said =
    let named : Some s ≡ sentence_of (command ∷ own) = said ∙ ap sentence_of is in
    let asked : Some (OnFiles s) ≡ request_of (command ∷ own) = rw (unlike command (codes "load") other (bytes_eq command (codes "load")) refl) (ap (option_map OnFiles) named) in
    asked ∙ ap request_of (sym is)
