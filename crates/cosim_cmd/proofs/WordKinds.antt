-- How the kit's reader of words sees a word: as `--`, as an option's, or as a positional word.
use Rattle.std.proofs.Common.{ℕ, ◌≡◌, Bool, true, false, List, [], ◌∷◌, ◌++◌, Some, None, refl, ap, sym, ◌∙◌, ◌&&◌, arith, cond, eqb}
use Rattle.std.specs.Prelude.{slice_get, codes, IsUtf8, option_and_then, encode_utf8_all}
use Rattle.std.specs.Str.{bytes_eq, chars}
use Rattle.std.proofs.lemmas.Str.{IsUtf8-past_char, encode_ascii, encodes-chars}
use Rattle.std.proofs.lemmas.Bool.Decides.{Decides-eqb}
use Rattle.clap.specs.Lexer.{long_of, long_of_rest, short_of, short_of_rest, strip_byte}
use Rattle.cosim_cmd.specs.Sentence.{is_option}

-- a text that is not empty has a first character
first_char : (b : ℕ) (rest : List ℕ) → IsUtf8 (b ∷ rest) → (x : ℕ) × (slice_get (chars (b ∷ rest)) 0 ≡ Some x)
first_char b rest u = go (chars (b ∷ rest)) (encodes-chars (b ∷ rest) u)
  where
    go : (cs : List ℕ) → encode_utf8_all cs ≡ b ∷ rest → (x : ℕ) × (slice_get cs 0 ≡ Some x)
    go [] e = cc
    go (x ∷ cs) e = (x, refl)

-- so has what follows a hyphen
pub first_after_hyphen : (b c : ℕ) (more : List ℕ) → IsUtf8 (b ∷ c ∷ more) → eqb b 45 ≡ true → (x : ℕ) × (slice_get (chars (c ∷ more)) 0 ≡ Some x)
first_after_hyphen b c more u hyphen =
    let is : b ≡ 45 = (Decides-eqb b 45).0 hyphen in
    first_char c more (IsUtf8-past_char (b ∷ c ∷ more) (c ∷ more) 45 u (ap (λ x. x ∷ c ∷ more) is ∙ sym (ap (λ e. e ++ (c ∷ more)) (encode_ascii 45 (omega arith)))))

pub plain_long : (word : List ℕ) → is_option word ≡ false → long_of word ≡ None
plain_long [] plain = refl
plain_long (b ∷ []) plain = go (eqb b 45)
  where
    go : (hyphen : Bool) → option_and_then long_of_rest (option_and_then (strip_byte 45) (cond hyphen (Some []) None)) ≡ None
    go true = refl
    go false = refl
plain_long (b ∷ (c ∷ more)) plain = rw plain refl

pub plain_short : (word : List ℕ) → is_option word ≡ false → short_of word ≡ None
plain_short [] plain = refl
plain_short (b ∷ []) plain = go (eqb b 45)
  where
    go : (hyphen : Bool) → option_and_then short_of_rest (cond hyphen (Some []) None) ≡ None
    go true = refl
    go false = refl
plain_short (b ∷ (c ∷ more)) plain = rw plain refl

pub plain_unlike_dashes : (word : List ℕ) → is_option word ≡ false → bytes_eq word (codes "--") ≡ false
plain_unlike_dashes [] plain = refl
plain_unlike_dashes (b ∷ []) plain = go (eqb b 45)
  where
    go : (hyphen : Bool) → (hyphen && false) ≡ false
    go true = refl
    go false = refl
plain_unlike_dashes (b ∷ (c ∷ more)) plain = rw plain refl
