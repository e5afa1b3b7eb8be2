-- What `clap` makes of the words of a command with one required file and an option that has no value.
use Rattle.std.proofs.Common.{ℕ, ◌≡◌, Bool, true, false, List, [], ◌∷◌, Option, Some, None, refl, ap, ap₂, sym, subst, ◌∙◌, length, take, cond, eqb, not, true≢false, ◌+◌, ◌||◌, ◌⊎◌, inl, inr, suc, arith}
use Rattle.std.specs.Prelude.{slice_get, codes, IsUtf8, fold, option_map}
use Rattle.std.specs.List.{before_first, after_first, position_or_len}
use Rattle.std.specs.Option.{option_map_or}
use Rattle.std.specs.Str.{bytes_eq, chars}
use Rattle.std.proofs.lemmas.Slice.Eq.{bytes_eq-Decides}
use Rattle.std.proofs.lemmas.Bool.Decides.{Decides-eqb}
use Rattle.clap.specs.Lexer.{long_of, short_of, has_byte, name_and_value}
use Rattle.clap.specs.Walk.{Rule, Text, Walk, Held, Row, walked, nothing_held, idle, first_of, one_of, finished, settled, reading_by, arg_by_long, rows_of}
use Rattle.clap.specs.declared.parser.matches.ValueSource.TheVariants.{CommandLine}
use Rattle.clap.specs.Simple.{App, Shape, built, matches_of, filled, with_index}
use Rattle.clap.specs.Faults.{fault_of, flag_word_fault, walk_fault, flags_fault, defaults_fault, settle_fault, check_fault, is_simple_and_free, turn_fault, word_fault, long_fault, bundle_fault, bundle_step_fault}
use Rattle.clap.specs.Kinds.{Kinds, or_else, IsAmong}
use Rattle.clap.specs.declared.error.kind.ErrorKind.{ErrorKind}
use Rattle.clap.specs.declared.error.kind.ErrorKind.TheVariants as kind
use Rattle.clap.proofs.OnLiterals.{clap_on_literals}
use Rattle.clap.proofs.FaultLemmas.{leaf_fault}
use Rattle.clap.proofs.WalkLemmas.{first_value-rows, one_text-rows}
use Rattle.clap.specs.Matches.{first_value, one_text}
use Rattle.clap.specs.declared.parser.matches.Found.{Found}
use Rattle.cosim_cmd.specs.Sentence.{is_option, operands, options, single, is_given, both, word_and_flag}
use Rattle.cosim_cmd.specs.declared.words.Flag.{Flag}
use Rattle.cosim_cmd.specs.declared.words.Flag.TheVariants as flagged
use Rattle.cosim_cmd.specs.Said.{described_with_flag, file_rule, flag_rule, flag_name, flag_word}
use Rattle.cosim_cmd.proofs.WordKinds.{first_after_hyphen, plain_long, plain_short, plain_unlike_dashes}
use Rattle.cosim_cmd.proofs.ClapWords.{AreTexts}

abbrev file_arg : Rule
file_arg = with_index 1 (filled file_rule)

abbrev flag_arg : Flag → Rule
flag_arg which = with_index 2 (filled (flag_rule which))

abbrev rules : Flag → List Rule
rules which = file_arg ∷ flag_arg which ∷ []

abbrev shape : Flag → Text → Shape
shape which name = (built (described_with_flag which name)).top

pub is_described : (which : Flag) (name : Text) → is_simple_and_free (described_with_flag which name) ≡ true
is_described flagged.Stats name = refl
is_described flagged.Text name = refl

-- ---- what was met so far

pub data Met : Type 0 where
  neither : Met
  flag : Met
  file : Text → Met
  flag_file : Text → Met
  file_flag : Text → Met

abbrev row : Text → Text → Rule → Row
row id value rule = record { id = id; values = value ∷ []; count = None; source = Some CommandLine; reading = reading_by rule }

abbrev flag_row : Flag → Row
flag_row which = row (flag_name which) (codes "true") (flag_arg which)

abbrev pending : Text → Option (Text × List Text)
pending f = Some (codes "file", f ∷ [])

abbrev pub held : Flag → Met → Held
held which neither = record { rows = []; pending = None; skip = 0 }
held which flag = record { rows = flag_row which ∷ []; pending = None; skip = 0 }
held which (file f) = record { rows = []; pending = pending f; skip = 0 }
held which (flag_file f) = record { rows = flag_row which ∷ []; pending = pending f; skip = 0 }
held which (file_flag f) = record { rows = row (codes "file") f file_arg ∷ flag_row which ∷ []; pending = None; skip = 0 }

abbrev pub position : Met → ℕ
position neither = 1
position flag = 1
position (file f) = 2
position (flag_file f) = 2
position (file_flag f) = 2

abbrev pub at : Flag → Met → Bool → Walk
at which m rest = record { held = held which m; waiting = idle; position = position m; is_trailing = rest; stopped = None }

-- ---- what the words from there on say

abbrev only : Text → List Text → Option Text
only f [] = Some f
only f (p ∷ ps) = None

abbrev no_more : List Text → Option Bool
no_more [] = Some true
no_more (o ∷ os) = None

abbrev read : Flag → Met → List Text → List Text → Option (Text × Bool)
read which neither ps os = both (single ps) (is_given (flag_word which) os)
read which flag ps os = both (single ps) (no_more os)
read which (file f) ps os = both (only f ps) (is_given (flag_word which) os)
read which (flag_file f) ps os = both (only f ps) (no_more os)
read which (file_flag f) ps os = both (only f ps) (no_more os)

abbrev no_flag : Option Bool
no_flag = None

both_none : (a : Option Text) → both a no_flag ≡ None
both_none None = refl
both_none (Some a) = refl

only_first : (w : Text) (ps : List Text) → single (w ∷ ps) ≡ only w ps
only_first w [] = refl
only_first w (p ∷ ps) = refl

module _ (which : Flag) where
  flag_first : (w : Text) (os : List Text) → bytes_eq w (flag_word which) ≡ true → is_given (flag_word which) (w ∷ os) ≡ no_more os
  flag_first w [] is = rw is refl
  flag_first w (o ∷ os) is = refl

  other_first : (w : Text) (os : List Text) → bytes_eq w (flag_word which) ≡ false → is_given (flag_word which) (w ∷ os) ≡ None
  other_first w [] is = rw is refl
  other_first w (o ∷ os) is = refl

  word_is_flag : (word : Text) → bytes_eq word (flag_word which) ≡ true → word ≡ flag_word which
  word_is_flag word is = (bytes_eq-Decides word (flag_word which)).0 is

-- ---- a word of any other option is refused

abbrev held_with : List Row → Option (Text × List Text) → Held
held_with rows waits = record { rows = rows; pending = waits; skip = 0 }

abbrev is_equals : ℕ → Bool
is_equals x = eqb x 61

-- with no `=`, the name is the whole text
whole : (text : Text) → has_byte 61 text ≡ false → before_first is_equals text ≡ text
whole [] none = refl
whole (x ∷ xs) none = go (eqb x 61) (whole xs) none
  where
    go : (is : Bool) → (has_byte 61 xs ≡ false → before_first is_equals xs ≡ xs) → (is || has_byte 61 xs) ≡ false → take (cond (not is) (1 + position_or_len is_equals xs) 0) (x ∷ xs) ≡ x ∷ xs
    go true rest none = cc
    go false rest none =
        let next : 1 + position_or_len is_equals xs ≡ suc (position_or_len is_equals xs) = omega arith in
        ap (λ (k : ℕ). take k (x ∷ xs)) next ∙ ap (λ (more : Text). x ∷ more) (rest none)

-- the word of an option is its name after two hyphens
word_of : (which : Flag) → 45 ∷ 45 ∷ flag_name which ≡ flag_word which
word_of flagged.Stats = refl
word_of flagged.Text = refl

module _ (which : Flag) where
  long_refused : (rows : List Row) (waits : Option (Text × List Text)) (text : Text) → (text ≡ flag_name which → ⊥)
      → long_fault (rules which) false (arg_by_long (rules which) (name_and_value text).0) (name_and_value text).1 (held_with rows waits) ≡ [] → ⊥
  long_refused rows waits text other = go (bytes_eq (flag_name which) (before_first is_equals text)) refl (has_byte 61 text) refl
    where
      go : (named : Bool) → bytes_eq (flag_name which) (before_first is_equals text) ≡ named → (valued : Bool) → has_byte 61 text ≡ valued
          → long_fault (rules which) false (cond (named || false) (Some (flag_arg which)) None) (cond valued (Some (after_first is_equals text)) None) (held_with rows waits) ≡ [] → ⊥
      go false _ valued _ = λ none. cc
      go true _ true _ = λ none. cc
      go true is false at = λ none. other (sym (whole text at) ∙ sym ((bytes_eq-Decides (flag_name which) (before_first is_equals text)).0 is))

  short_refused : (rows : List Row) (waits : Option (Text × List Text)) (c x : ℕ) (more : Text) → slice_get (chars (c ∷ more)) 0 ≡ Some x → bundle_fault (rules which) false (c ∷ more) (held_with rows waits) ≡ kind.UnknownArgument ∷ []
  unfolding flags_fault
  short_refused rows waits c x more first =
      ap (λ (o : Option ℕ). bundle_step_fault (rules which) false o (c ∷ more) 0 (held_with rows waits) (flags_fault (rules which) false (length more))) first

  word_refused : (rows : List Row) (waits : Option (Text × List Text)) (word : Text) → IsUtf8 word → bytes_eq word (codes "--") ≡ false → bytes_eq word (flag_word which) ≡ false → is_option word ≡ true
      → flag_word_fault (rules which) false (long_of word) word (held_with rows waits) ≡ [] → ⊥
  word_refused rows waits [] u dashes other option = cc
  word_refused rows waits (b ∷ []) u dashes other option = cc
  word_refused rows waits (b ∷ (c ∷ more)) u dashes other option = go (eqb c 45) refl more u dashes other
    where
      go : (hyphen : Bool) → eqb c 45 ≡ hyphen → (more : Text) → IsUtf8 (b ∷ c ∷ more) → bytes_eq (b ∷ c ∷ more) (codes "--") ≡ false → bytes_eq (b ∷ c ∷ more) (flag_word which) ≡ false
          → flag_word_fault (rules which) false (long_of (b ∷ c ∷ more)) (b ∷ c ∷ more) (held_with rows waits) ≡ [] → ⊥
      go true is [] u dashes other = let bad : true ≡ false = rw (option, is) at dashes in absurd (true≢false bad)
      go true is (x ∷ xs) u dashes other = λ none.
          let long_is : long_of (b ∷ c ∷ x ∷ xs) ≡ Some (name_and_value (x ∷ xs)) = rw (option, is) refl in
          let word_is : x ∷ xs ≡ flag_name which → b ∷ c ∷ x ∷ xs ≡ flag_word which = λ e. ap (λ (n : ℕ). n ∷ c ∷ x ∷ xs) ((Decides-eqb b 45).0 option) ∙ ap (λ (n : ℕ). 45 ∷ n ∷ x ∷ xs) ((Decides-eqb c 45).0 is) ∙ ap (λ (t : Text). 45 ∷ 45 ∷ t) e ∙ word_of which in
          let differs : x ∷ xs ≡ flag_name which → ⊥ = λ e. true≢false (sym ((bytes_eq-Decides (b ∷ c ∷ x ∷ xs) (flag_word which)).1 (word_is e)) ∙ other) in
          long_refused rows waits (x ∷ xs) differs (sym (ap (λ (l : Option (Text × Option Text)). flag_word_fault (rules which) false l (b ∷ c ∷ x ∷ xs) (held_with rows waits)) long_is) ∙ none)
      go false is more u dashes other = λ none.
          let first = first_after_hyphen b c more u option in
          let long_is : long_of (b ∷ c ∷ more) ≡ None = rw (option, is) refl in
          let short_is : short_of (b ∷ c ∷ more) ≡ Some (c ∷ more) = rw (option, is) refl in
          let refused : flag_word_fault (rules which) false (long_of (b ∷ c ∷ more)) (b ∷ c ∷ more) (held_with rows waits) ≡ kind.UnknownArgument ∷ [] =
          ap (λ (l : Option (Text × Option Text)). flag_word_fault (rules which) false l (b ∷ c ∷ more) (held_with rows waits)) long_is
          ∙ ap (λ (s : Option Text). option_map_or (λ (flags : Text). bundle_fault (rules which) false flags (held_with rows waits)) s []) short_is
          ∙ short_refused rows waits c first.0 more first.1 in
          let bad : kind.UnknownArgument ∷ [] ≡ [] = sym refused ∙ none in cc

abbrev pub text_of : Bool → Text
text_of true = codes "true"
text_of false = codes "false"

module _ (which : Flag) (name : Text) where
  abbrev fault : Walk → List Text → Kinds
  fault w words = walk_fault (shape which name) [] w words

  abbrev turn : Walk → Text → Kinds
  turn w word = turn_fault (shape which name) [] w word

  abbrev next : Walk → Text → Walk
  next w word = walked (rules which) [] w word

  abbrev end_fault : Held → Kinds
  end_fault h = or_else (settle_fault (rules which) false h) (or_else (defaults_fault (settled (rules which) h).rows (rules which)) (check_fault (shape which name) (finished (rules which) h) false))

  -- of a walk that goes on over these words: its faults to the end, and what is found
  abbrev total : Walk → List Text → Kinds
  total w words = or_else (fault w words) (end_fault (fold next w words).held)

  abbrev found : Walk → List Text → List Row
  found w words = finished (rules which) (fold next w words).held

  abbrev Reaches : Walk → List Text → Option (Text × Bool) → Type 0
  Reaches w words None = total w words ≡ [] → ⊥
  Reaches w words (Some p) = (total w words ≡ []) × (first_of (codes "file") (found w words) ≡ Some p.0) × (one_of (flag_name which) (found w words) ≡ Some (text_of p.1))

-- no more words
ends : (which : Flag) (name : Text) (m : Met) (rest : Bool) → Reaches which name (at which m rest) [] (read which m [] [])
unfolding clap_on_literals
ends flagged.Stats name neither rest = λ none. cc
ends flagged.Stats name flag rest = λ none. cc
ends flagged.Stats name (file f) rest = (refl, refl, refl)
ends flagged.Stats name (flag_file f) rest = (refl, refl, refl)
ends flagged.Stats name (file_flag f) rest = (refl, refl, refl)
ends flagged.Text name neither rest = λ none. cc
ends flagged.Text name flag rest = λ none. cc
ends flagged.Text name (file f) rest = (refl, refl, refl)
ends flagged.Text name (flag_file f) rest = (refl, refl, refl)
ends flagged.Text name (file_flag f) rest = (refl, refl, refl)

-- after a word `--`
trails : (which : Flag) (name : Text) (m : Met) (words : List Text) → Reaches which name (at which m true) words (read which m words [])
unfolding clap_on_literals
trails which name m [] = ends which name m true
trails flagged.Stats name neither (w ∷ []) = (refl, refl, refl)
trails flagged.Stats name neither (w ∷ (v ∷ more)) = λ none. cc
trails flagged.Stats name flag (w ∷ []) = (refl, refl, refl)
trails flagged.Stats name flag (w ∷ (v ∷ more)) = λ none. cc
trails flagged.Stats name (file f) (w ∷ more) = λ none. cc
trails flagged.Stats name (flag_file f) (w ∷ more) = λ none. cc
trails flagged.Stats name (file_flag f) (w ∷ more) = λ none. cc
trails flagged.Text name neither (w ∷ []) = (refl, refl, refl)
trails flagged.Text name neither (w ∷ (v ∷ more)) = λ none. cc
trails flagged.Text name flag (w ∷ []) = (refl, refl, refl)
trails flagged.Text name flag (w ∷ (v ∷ more)) = λ none. cc
trails flagged.Text name (file f) (w ∷ more) = λ none. cc
trails flagged.Text name (flag_file f) (w ∷ more) = λ none. cc
trails flagged.Text name (file_flag f) (w ∷ more) = λ none. cc

-- the option, once and again
module _ (name : Text) where
  flag_turn_at : (which : Flag) → turn which name (at which neither false) (flag_word which) ≡ []
  unfolding clap_on_literals
  flag_turn_at flagged.Stats = refl
  flag_turn_at flagged.Text = refl

  flag_next_at : (which : Flag) → next which name (at which neither false) (flag_word which) ≡ at which flag false
  unfolding clap_on_literals
  flag_next_at flagged.Stats = refl
  flag_next_at flagged.Text = refl

  file_flag_turn_at : (which : Flag) (f : Text) → turn which name (at which (file f) false) (flag_word which) ≡ []
  unfolding clap_on_literals
  file_flag_turn_at flagged.Stats f = refl
  file_flag_turn_at flagged.Text f = refl

  file_flag_next_at : (which : Flag) (f : Text) → next which name (at which (file f) false) (flag_word which) ≡ at which (file_flag f) false
  unfolding clap_on_literals
  file_flag_next_at flagged.Stats f = refl
  file_flag_next_at flagged.Text f = refl

  flag_again_at : (which : Flag) → turn which name (at which flag false) (flag_word which) ≡ kind.ArgumentConflict ∷ []
  unfolding clap_on_literals
  flag_again_at flagged.Stats = refl
  flag_again_at flagged.Text = refl

  flag_file_again_at : (which : Flag) (f : Text) → turn which name (at which (flag_file f) false) (flag_word which) ≡ kind.ArgumentConflict ∷ []
  unfolding clap_on_literals
  flag_file_again_at flagged.Stats f = refl
  flag_file_again_at flagged.Text f = refl

  file_flag_again_at : (which : Flag) (f : Text) → turn which name (at which (file_flag f) false) (flag_word which) ≡ kind.ArgumentConflict ∷ []
  unfolding clap_on_literals
  file_flag_again_at flagged.Stats f = refl
  file_flag_again_at flagged.Text f = refl

module _ (which : Flag) (name : Text) where
  -- a word on
  passes : (w then : Walk) (word : Text) (more : List Text) (o : Option (Text × Bool)) → turn which name w word ≡ [] → next which name w word ≡ then → Reaches which name then more o → Reaches which name w (word ∷ more) o
  unfolding walk_fault
  passes w then word more o passed step reaches = go o reaches
    where
      same : total which name w (word ∷ more) ≡ total which name then more
      same = ap₂ (λ (k : Kinds) (v : Walk). or_else (or_else k (fault which name v more)) (end_fault which name (fold (next which name) v more).held)) passed step

      go : (o : Option (Text × Bool)) → Reaches which name then more o → Reaches which name w (word ∷ more) o
      go None reaches = λ none. reaches (sym same ∙ none)
      go (Some p) reaches = (same ∙ reaches.0, ap (λ (v : Walk). first_of (codes "file") (found which name v more)) step ∙ reaches.1, ap (λ (v : Walk). one_of (flag_name which) (found which name v more)) step ∙ reaches.2)

  first_empty : (a b : Kinds) → or_else a b ≡ [] → a ≡ []
  first_empty [] b e = refl
  first_empty (k ∷ ks) b e = cc

  stops : (w : Walk) (word : Text) (more : List Text) → (turn which name w word ≡ [] → ⊥) → Reaches which name w (word ∷ more) None
  unfolding walk_fault
  stops w word more refused = λ none. refused (first_empty _ _ (first_empty _ _ none))

  dashes_turn : (m : Met) (word : Text) → bytes_eq word (codes "--") ≡ true → turn which name (at which m false) word ≡ []
  dashes_turn m word is = rw is refl

  dashes_next : (m : Met) (word : Text) → bytes_eq word (codes "--") ≡ true → next which name (at which m false) word ≡ at which m true
  unfolding walked
  dashes_next m word is = rw is refl

  -- a positional word
  first_turn : (word : Text) → is_option word ≡ false → turn which name (at which neither false) word ≡ []
  first_turn word plain = rw (plain_unlike_dashes word plain, plain_long word plain, plain_short word plain) refl

  first_next : (word : Text) → is_option word ≡ false → next which name (at which neither false) word ≡ at which (file word) false
  unfolding walked
  first_next word plain = rw (plain_unlike_dashes word plain, plain_long word plain, plain_short word plain) refl

  first_turn_flag : (word : Text) → is_option word ≡ false → turn which name (at which flag false) word ≡ []
  first_turn_flag word plain = rw (plain_unlike_dashes word plain, plain_long word plain, plain_short word plain) refl

  first_next_flag : (word : Text) → is_option word ≡ false → next which name (at which flag false) word ≡ at which (flag_file word) false
  unfolding walked
  first_next_flag word plain = rw (plain_unlike_dashes word plain, plain_long word plain, plain_short word plain) refl

  second_turn : (m : Met) (word : Text) → position m ≡ 2 → is_option word ≡ false → turn which name (at which m false) word ≡ kind.UnknownArgument ∷ []
  second_turn m word two plain = rw (plain_unlike_dashes word plain, plain_long word plain, plain_short word plain, two) refl

  plain_step : (m : Met) (word : Text) (more : List Text) (ps os : List Text) → is_option word ≡ false → ((m : Met) → Reaches which name (at which m false) more (read which m ps os)) → Reaches which name (at which m false) (word ∷ more) (read which m (word ∷ ps) os)
  plain_step neither word more ps os plain on =
      let same : read which (file word) ps os ≡ read which neither (word ∷ ps) os = ap (λ (f : Option Text). both f (is_given (flag_word which) os)) (sym (only_first word ps)) in
      passes _ (at which (file word) false) word more _ (first_turn word plain) (first_next word plain) (subst (λ o. Reaches which name (at which (file word) false) more o) same (on (file word)))
  plain_step flag word more ps os plain on =
      let same : read which (flag_file word) ps os ≡ read which flag (word ∷ ps) os = ap (λ (f : Option Text). both f (no_more os)) (sym (only_first word ps)) in
      passes _ (at which (flag_file word) false) word more _ (first_turn_flag word plain) (first_next_flag word plain) (subst (λ o. Reaches which name (at which (flag_file word) false) more o) same (on (flag_file word)))
  plain_step (file f) word more ps os plain on = stops _ word more (λ none. let bad : kind.UnknownArgument ∷ [] ≡ [] = sym (second_turn (file f) word refl plain) ∙ none in cc)
  plain_step (flag_file f) word more ps os plain on = stops _ word more (λ none. let bad : kind.UnknownArgument ∷ [] ≡ [] = sym (second_turn (flag_file f) word refl plain) ∙ none in cc)
  plain_step (file_flag f) word more ps os plain on = stops _ word more (λ none. let bad : kind.UnknownArgument ∷ [] ≡ [] = sym (second_turn (file_flag f) word refl plain) ∙ none in cc)

  -- the option
  flag_turn : (word : Text) → bytes_eq word (flag_word which) ≡ true → turn which name (at which neither false) word ≡ []
  flag_turn word is = subst (λ (w : Text). turn which name (at which neither false) w ≡ []) (sym (word_is_flag which word is)) (flag_turn_at name which)

  flag_next : (word : Text) → bytes_eq word (flag_word which) ≡ true → next which name (at which neither false) word ≡ at which flag false
  flag_next word is = subst (λ (w : Text). next which name (at which neither false) w ≡ at which flag false) (sym (word_is_flag which word is)) (flag_next_at name which)

  file_flag_turn : (f word : Text) → bytes_eq word (flag_word which) ≡ true → turn which name (at which (file f) false) word ≡ []
  file_flag_turn f word is = subst (λ (w : Text). turn which name (at which (file f) false) w ≡ []) (sym (word_is_flag which word is)) (file_flag_turn_at name which f)

  file_flag_next : (f word : Text) → bytes_eq word (flag_word which) ≡ true → next which name (at which (file f) false) word ≡ at which (file_flag f) false
  file_flag_next f word is = subst (λ (w : Text). next which name (at which (file f) false) w ≡ at which (file_flag f) false) (sym (word_is_flag which word is)) (file_flag_next_at name which f)

  -- given twice
  flag_again : (word : Text) → bytes_eq word (flag_word which) ≡ true → turn which name (at which flag false) word ≡ kind.ArgumentConflict ∷ []
  flag_again word is = subst (λ (w : Text). turn which name (at which flag false) w ≡ kind.ArgumentConflict ∷ []) (sym (word_is_flag which word is)) (flag_again_at name which)

  flag_file_again : (f word : Text) → bytes_eq word (flag_word which) ≡ true → turn which name (at which (flag_file f) false) word ≡ kind.ArgumentConflict ∷ []
  flag_file_again f word is = subst (λ (w : Text). turn which name (at which (flag_file f) false) w ≡ kind.ArgumentConflict ∷ []) (sym (word_is_flag which word is)) (flag_file_again_at name which f)

  file_flag_again : (f word : Text) → bytes_eq word (flag_word which) ≡ true → turn which name (at which (file_flag f) false) word ≡ kind.ArgumentConflict ∷ []
  file_flag_again f word is = subst (λ (w : Text). turn which name (at which (file_flag f) false) w ≡ kind.ArgumentConflict ∷ []) (sym (word_is_flag which word is)) (file_flag_again_at name which f)

  -- any other option's word
  other_by : (rows : List Row) (waits : Option (Text × List Text)) (position : ℕ) (word : Text) → IsUtf8 word → bytes_eq word (codes "--") ≡ false → bytes_eq word (flag_word which) ≡ false → is_option word ≡ true
      → turn which name (record { held = held_with rows waits; waiting = idle; position = position; is_trailing = false; stopped = None }) word ≡ [] → ⊥
  other_by rows waits position word u dashes other option none =
      let same : word_fault (shape which name) [] false idle word (held_with rows waits) ≡ flag_word_fault (rules which) false (long_of word) word (held_with rows waits) = rw dashes refl in
      word_refused which rows waits word u dashes other option (sym same ∙ first_empty _ _ none)

  other_turn : (m : Met) (word : Text) → IsUtf8 word → bytes_eq word (codes "--") ≡ false → bytes_eq word (flag_word which) ≡ false → is_option word ≡ true → turn which name (at which m false) word ≡ [] → ⊥
  other_turn neither word = other_by [] None 1 word
  other_turn flag word = other_by (flag_row which ∷ []) None 1 word
  other_turn (file f) word = other_by [] (pending f) 2 word
  other_turn (flag_file f) word = other_by (flag_row which ∷ []) (pending f) 2 word
  other_turn (file_flag f) word = other_by (row (codes "file") f file_arg ∷ flag_row which ∷ []) None 2 word

  refused_by : (w : Walk) (word : Text) (more : List Text) (o : Option (Text × Bool)) → o ≡ None → (turn which name w word ≡ [] → ⊥) → Reaches which name w (word ∷ more) o
  refused_by w word more o none refused = subst (λ o. Reaches which name w (word ∷ more) o) (sym none) (stops w word more refused)

  twice : (k : Kinds) → k ≡ kind.ArgumentConflict ∷ [] → k ≡ [] → ⊥
  twice k is none = let bad : kind.ArgumentConflict ∷ [] ≡ [] = sym is ∙ none in cc

  flag_step : (m : Met) (word : Text) (more : List Text) (ps os : List Text) → bytes_eq word (flag_word which) ≡ true → ((m : Met) → Reaches which name (at which m false) more (read which m ps os)) → Reaches which name (at which m false) (word ∷ more) (read which m ps (word ∷ os))
  flag_step neither word more ps os is on =
      let same : read which flag ps os ≡ read which neither ps (word ∷ os) = ap (λ (g : Option Bool). both (single ps) g) (sym (flag_first which word os is)) in
      passes _ (at which flag false) word more _ (flag_turn word is) (flag_next word is) (subst (λ o. Reaches which name (at which flag false) more o) same (on flag))
  flag_step (file f) word more ps os is on =
      let same : read which (file_flag f) ps os ≡ read which (file f) ps (word ∷ os) = ap (λ (g : Option Bool). both (only f ps) g) (sym (flag_first which word os is)) in
      passes _ (at which (file_flag f) false) word more _ (file_flag_turn f word is) (file_flag_next f word is) (subst (λ o. Reaches which name (at which (file_flag f) false) more o) same (on (file_flag f)))
  flag_step flag word more ps os is on = refused_by _ word more _ (both_none (single ps)) (twice _ (flag_again word is))
  flag_step (flag_file f) word more ps os is on = refused_by _ word more _ (both_none (only f ps)) (twice _ (flag_file_again f word is))
  flag_step (file_flag f) word more ps os is on = refused_by _ word more _ (both_none (only f ps)) (twice _ (file_flag_again f word is))

  other_none : (m : Met) (word : Text) (ps os : List Text) → bytes_eq word (flag_word which) ≡ false → read which m ps (word ∷ os) ≡ None
  other_none neither word ps os is = ap (λ (g : Option Bool). both (single ps) g) (other_first which word os is) ∙ both_none (single ps)
  other_none flag word ps os is = both_none (single ps)
  other_none (file f) word ps os is = ap (λ (g : Option Bool). both (only f ps) g) (other_first which word os is) ∙ both_none (only f ps)
  other_none (flag_file f) word ps os is = both_none (only f ps)
  other_none (file_flag f) word ps os is = both_none (only f ps)

  -- the walk over words
  reaches : (words : List Text) → AreTexts words → (m : Met) → Reaches which name (at which m false) words (read which m (operands words) (options words))
  reaches [] u m = ends which name m false
  reaches (word ∷ more) u m = go (reaches more u.1) (bytes_eq word (codes "--")) refl (is_option word) refl
    where
      On : Type 0
      On = (m : Met) → Reaches which name (at which m false) more (read which m (operands more) (options more))

      option_step : On → bytes_eq word (codes "--") ≡ false → is_option word ≡ true → (is : Bool) → bytes_eq word (flag_word which) ≡ is → Reaches which name (at which m false) (word ∷ more) (read which m (operands more) (word ∷ options more))
      option_step on dashes option true is = flag_step m word more (operands more) (options more) is on
      option_step on dashes option false is = refused_by _ word more _ (other_none m word (operands more) (options more) is) (other_turn m word u.0 dashes is option)

      go : On → (dashes : Bool) → bytes_eq word (codes "--") ≡ dashes → (option : Bool) → is_option word ≡ option
          → Reaches which name (at which m false) (word ∷ more) (read which m (cond dashes more (cond option (operands more) (word ∷ operands more))) (cond dashes [] (cond option (word ∷ options more) (options more))))
      go on true is option _ = passes _ (at which m true) word more _ (dashes_turn m word is) (dashes_next m word is) (trails which name m more)
      go on false is true option = option_step on is option (bytes_eq word (flag_word which)) refl
      go on false is false plain = plain_step m word more (operands more) (options more) plain on

  pub words_read : (words : List Text) → AreTexts words → Reaches which name (at which neither false) words (word_and_flag (flag_word which) words)
  words_read words u = reaches words u neither

-- ---- of a parse

fault_is : (which : Flag) (name : Text) (words : List Text) → fault_of (described_with_flag which name) words ≡ total which name (at which neither false) words
fault_is flagged.Stats name words = leaf_fault (built (described_with_flag flagged.Stats name)) nothing_held words refl
fault_is flagged.Text name words = leaf_fault (built (described_with_flag flagged.Text name)) nothing_held words refl

-- what the words of a parse without a fault say
pub record Said (which : Flag) (name : Text) (words : List Text) (o : Option (Text × Bool)) : Type 0 where
  pub file : Text
  pub given : Bool
  pub is : o ≡ Some (file, given)
  pub file_found : first_of (codes "file") (matches_of (described_with_flag which name) words) ≡ Some file
  pub flag_found : one_of (flag_name which) (matches_of (described_with_flag which name) words) ≡ Some (text_of given)

module _ (which : Flag) (name : Text) (words : List Text) (u : AreTexts words) (faults : fault_of (described_with_flag which name) words ≡ []) where
  pub words_said : Said which name words (word_and_flag (flag_word which) words)
  words_said = go (word_and_flag (flag_word which) words) (words_read which name words u)
    where
      go : (o : Option (Text × Bool)) → Reaches which name (at which neither false) words o → Said which name words o
      go None reaches = absurd (reaches (sym (fault_is which name words) ∙ faults))
      go (Some p) reaches = record { file = p.0; given = p.1; is = refl; file_found = reaches.1; flag_found = reaches.2 }

pub words_refused : (which : Flag) (name : Text) (words : List Text) → AreTexts words → (e : ErrorKind) → (e ≡ kind.OutOfMemory) ⊎ IsAmong e (fault_of (described_with_flag which name) words) → (e ≡ kind.OutOfMemory → ⊥) → None ≡ word_and_flag (flag_word which) words
words_refused which name words u e fails other = go (word_and_flag (flag_word which) words) (words_read which name words u) fails
  where
    go : (o : Option (Text × Bool)) → Reaches which name (at which neither false) words o → (e ≡ kind.OutOfMemory) ⊎ IsAmong e (fault_of (described_with_flag which name) words) → None ≡ o
    go None reaches fails = refl
    go (Some p) reaches (inl memory) = absurd (other memory)
    go (Some p) reaches (inr among) = let bad : ⊥ = subst (λ (kinds : Kinds). IsAmong e kinds) (fault_is which name words ∙ reaches.0) among in absurd bad

-- what a caller reads of the matches
flag_is : (given got : Bool) (text : Option Text) → text ≡ Some (text_of given) → (text ≡ Some (codes "true") → got ≡ true) → (text ≡ Some (codes "false") → got ≡ false) → got ≡ given
flag_is true got text is when_true when_false = when_true is
flag_is false got text is when_true when_false = when_false is

module _ (which : Flag) (name : Text) (words : List Text) (u : AreTexts words) (a : App) (is : a ≡ described_with_flag which name) (faults : fault_of a words ≡ []) (f : Found) (rows : rows_of f ≡ matches_of a words) where
  said_is : Said which name words (word_and_flag (flag_word which) words)
  said_is = words_said which name words u (sym (ap (λ (a : App). fault_of a words) is) ∙ faults)

  rows_are : rows_of f ≡ matches_of (described_with_flag which name) words
  rows_are = rows ∙ ap (λ (a : App). matches_of a words) is

  file_read : first_value f (codes "file") ≡ Some said_is.file
  file_read = first_value-rows f (codes "file") ∙ ap (first_of (codes "file")) rows_are ∙ said_is.file_found

  flag_read : (got : Bool) → (one_text f (flag_name which) ≡ Some (codes "true") → got ≡ true) → (one_text f (flag_name which) ≡ Some (codes "false") → got ≡ false) → got ≡ said_is.given
  flag_read got = flag_is said_is.given got (one_text f (flag_name which)) (one_text-rows f (flag_name which) ∙ ap (one_of (flag_name which)) rows_are ∙ said_is.flag_found)

  pub has_file : None ≡ first_value f (codes "file") → ⊥
  has_file none = let bad : None ≡ Some said_is.file = none ∙ file_read in cc

  pub answered : (word : Text) (got : Bool) → Some word ≡ first_value f (codes "file") → (one_text f (flag_name which) ≡ Some (codes "true") → got ≡ true) → (one_text f (flag_name which) ≡ Some (codes "false") → got ≡ false) → Some (word, got) ≡ word_and_flag (flag_word which) words
  answered word got found when_true when_false =
      ap (λ (text : Option Text). option_map (λ (t : Text). (t, got)) text) (found ∙ file_read) ∙ ap (λ (given : Bool). Some (said_is.file, given)) (flag_read got when_true when_false) ∙ sym said_is.is
