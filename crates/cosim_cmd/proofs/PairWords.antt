-- What `clap` makes of the words of a command with a file and a schedule, and no options.
use Rattle.std.proofs.Common.{ℕ, ◌≡◌, Bool, true, false, List, [], ◌∷◌, Option, Some, None, refl, ap, ap₂, sym, subst, ◌∙◌, length, cond, eqb, true≢false, ◌⊎◌, inl, inr}
use Rattle.std.specs.Prelude.{slice_get, codes, IsUtf8, fold, option_map, option_and_then}
use Rattle.std.specs.Option.{option_map_or}
use Rattle.std.specs.Str.{bytes_eq, chars}
use Rattle.clap.specs.Lexer.{long_of, short_of}
use Rattle.clap.specs.Walk.{Rule, Text, Walk, Held, Row, walked, nothing_held, idle, first_of, finished, settled, reading_by, rows_of}
use Rattle.clap.specs.declared.parser.matches.ValueSource.TheVariants.{CommandLine}
use Rattle.clap.specs.Simple.{App, Shape, built, matches_of, filled, with_index}
use Rattle.clap.specs.Faults.{fault_of, flag_word_fault, walk_fault, flags_fault, defaults_fault, settle_fault, check_fault, is_simple_and_free, turn_fault, word_fault, bundle_fault, bundle_step_fault}
use Rattle.clap.specs.Kinds.{Kinds, or_else, IsAmong}
use Rattle.clap.specs.declared.error.kind.ErrorKind.{ErrorKind}
use Rattle.clap.specs.declared.error.kind.ErrorKind.TheVariants as kind
use Rattle.clap.proofs.OnLiterals.{clap_on_literals}
use Rattle.clap.proofs.FaultLemmas.{leaf_fault}
use Rattle.clap.proofs.WalkLemmas.{first_value-rows}
use Rattle.clap.specs.Matches.{first_value}
use Rattle.clap.specs.declared.parser.matches.Found.{Found}
use Rattle.cosim_cmd.specs.Sentence.{is_option, positionals, single, pair, file_pair}
use Rattle.cosim_cmd.specs.Said.{described_with_schedule, file_rule, schedule_rule}
use Rattle.cosim_cmd.proofs.WordKinds.{first_after_hyphen, plain_long, plain_short, plain_unlike_dashes}
use Rattle.cosim_cmd.proofs.ClapWords.{AreTexts}

abbrev file_arg : Rule
file_arg = with_index 1 (filled file_rule)

abbrev schedule_arg : Rule
schedule_arg = with_index 2 (filled schedule_rule)

abbrev rules : List Rule
rules = file_arg ∷ schedule_arg ∷ []

abbrev shape : Text → Shape
shape name = (built (described_with_schedule name)).top

pub is_described : (name : Text) → is_simple_and_free (described_with_schedule name) ≡ true
is_described name = refl

-- ---- what was met so far

pub data Met : Type 0 where
  neither : Met
  first : Text → Met
  second : Text → Text → Met

abbrev row : Text → Text → Rule → Row
row id value rule = record { id = id; values = value ∷ []; count = None; source = Some CommandLine; reading = reading_by rule }

abbrev held_with : List Row → Option (Text × List Text) → Held
held_with rows waits = record { rows = rows; pending = waits; skip = 0 }

abbrev pub held : Met → Held
held neither = held_with [] None
held (first f) = held_with [] (Some (codes "file", f ∷ []))
held (second f s) = held_with (row (codes "file") f file_arg ∷ []) (Some (codes "schedule", s ∷ []))

abbrev pub position : Met → ℕ
position neither = 1
position (first f) = 2
position (second f s) = 3

abbrev pub at : Met → Bool → Walk
at m rest = record { held = held m; waiting = idle; position = position m; is_trailing = rest; stopped = None }

-- ---- what the positional words from there on say

abbrev pub completed : Met → List Text → Option (Text × Text)
completed neither ps = pair ps
completed (first f) ps = option_map (λ s. (f, s)) (single ps)
completed (second f s) [] = Some (f, s)
completed (second f s) (p ∷ ps) = None

pair_first : (w : Text) (ps : List Text) → completed (first w) ps ≡ pair (w ∷ ps)
pair_first w [] = refl
pair_first w (p ∷ []) = refl
pair_first w (p ∷ (q ∷ ps)) = refl

pair_second : (f w : Text) (ps : List Text) → completed (second f w) ps ≡ completed (first f) (w ∷ ps)
pair_second f w [] = refl
pair_second f w (p ∷ ps) = refl

-- ---- a word of an option is refused

short_refused : (rows : List Row) (waits : Option (Text × List Text)) (c x : ℕ) (more : Text) → slice_get (chars (c ∷ more)) 0 ≡ Some x → bundle_fault rules false (c ∷ more) (held_with rows waits) ≡ kind.UnknownArgument ∷ []
unfolding flags_fault
short_refused rows waits c x more leads =
    ap (λ (o : Option ℕ). bundle_step_fault rules false o (c ∷ more) 0 (held_with rows waits) (flags_fault rules false (length more))) leads

option_refused : (rows : List Row) (waits : Option (Text × List Text)) (word : Text) → IsUtf8 word → bytes_eq word (codes "--") ≡ false → is_option word ≡ true → flag_word_fault rules false (long_of word) word (held_with rows waits) ≡ kind.UnknownArgument ∷ []
unfolding flags_fault
option_refused rows waits [] u other option = cc
option_refused rows waits (b ∷ []) u other option = cc
option_refused rows waits (b ∷ (c ∷ more)) u other option = go (eqb c 45) refl more u other
  where
    go : (hyphen : Bool) → eqb c 45 ≡ hyphen → (more : Text) → IsUtf8 (b ∷ c ∷ more) → bytes_eq (b ∷ c ∷ more) (codes "--") ≡ false → flag_word_fault rules false (long_of (b ∷ c ∷ more)) (b ∷ c ∷ more) (held_with rows waits) ≡ kind.UnknownArgument ∷ []
    go true is [] u other = let bad : true ≡ false = rw (option, is) at other in absurd (true≢false bad)
    go true is (x ∷ xs) u other = rw (option, is) refl
    go false is more u other =
        let leads = first_after_hyphen b c more u option in
        let long_is : long_of (b ∷ c ∷ more) ≡ None = rw (option, is) refl in
        let short_is : short_of (b ∷ c ∷ more) ≡ Some (c ∷ more) = rw (option, is) refl in
        ap (λ (l : Option (Text × Option Text)). flag_word_fault rules false l (b ∷ c ∷ more) (held_with rows waits)) long_is
        ∙ ap (λ (s : Option Text). option_map_or (λ (flags : Text). bundle_fault rules false flags (held_with rows waits)) s []) short_is
        ∙ short_refused rows waits c leads.0 more leads.1

module _ (name : Text) where
  abbrev fault : Walk → List Text → Kinds
  fault w words = walk_fault (shape name) [] w words

  abbrev turn : Walk → Text → Kinds
  turn w word = turn_fault (shape name) [] w word

  abbrev next : Walk → Text → Walk
  next w word = walked rules [] w word

  abbrev end_fault : Held → Kinds
  end_fault h = or_else (settle_fault rules false h) (or_else (defaults_fault (settled rules h).rows rules) (check_fault (shape name) (finished rules h) false))

  -- of a walk that goes on over these words: its faults to the end, and what is found
  abbrev total : Walk → List Text → Kinds
  total w words = or_else (fault w words) (end_fault (fold next w words).held)

  abbrev found : Walk → List Text → List Row
  found w words = finished rules (fold next w words).held

  abbrev Reaches : Walk → List Text → Option (Text × Text) → Type 0
  Reaches w words None = total w words ≡ [] → ⊥
  Reaches w words (Some p) = (total w words ≡ []) × (first_of (codes "file") (found w words) ≡ Some p.0) × (first_of (codes "schedule") (found w words) ≡ Some p.1)

  -- a word on
  passes : (w then : Walk) (word : Text) (more : List Text) (o : Option (Text × Text)) → turn w word ≡ [] → next w word ≡ then → Reaches then more o → Reaches w (word ∷ more) o
  unfolding walk_fault
  passes w then word more o passed step reaches = go o reaches
    where
      same : total w (word ∷ more) ≡ total then more
      same = ap₂ (λ (k : Kinds) (v : Walk). or_else (or_else k (fault v more)) (end_fault (fold next v more).held)) passed step

      go : (o : Option (Text × Text)) → Reaches then more o → Reaches w (word ∷ more) o
      go None reaches = λ none. reaches (sym same ∙ none)
      go (Some p) reaches = (same ∙ reaches.0, ap (λ (v : Walk). first_of (codes "file") (found v more)) step ∙ reaches.1, ap (λ (v : Walk). first_of (codes "schedule") (found v more)) step ∙ reaches.2)

  first_empty : (a b : Kinds) → or_else a b ≡ [] → a ≡ []
  first_empty [] b e = refl
  first_empty (k ∷ ks) b e = cc

  stops : (w : Walk) (word : Text) (more : List Text) → turn w word ≡ kind.UnknownArgument ∷ [] → Reaches w (word ∷ more) None
  unfolding walk_fault
  stops w word more refused = λ none. let bad : kind.UnknownArgument ∷ [] ≡ [] = sym refused ∙ first_empty _ _ (first_empty _ _ none) in cc

  -- no more words
  ends : (m : Met) (rest : Bool) → Reaches (at m rest) [] (completed m [])
  unfolding clap_on_literals
  ends neither rest = λ none. cc
  ends (first f) rest = λ none. cc
  ends (second f s) rest = (refl, refl, refl)

  -- after a word `--`
  trails : (m : Met) (words : List Text) → Reaches (at m true) words (completed m words)
  unfolding clap_on_literals
  trails m [] = ends m true
  trails neither (w ∷ []) = λ none. cc
  trails neither (w ∷ (v ∷ [])) = (refl, refl, refl)
  trails neither (w ∷ (v ∷ (u ∷ more))) = λ none. cc
  trails (first f) (w ∷ []) = (refl, refl, refl)
  trails (first f) (w ∷ (v ∷ more)) = λ none. cc
  trails (second f s) (w ∷ more) = λ none. cc

  dashes_turn : (m : Met) (word : Text) → bytes_eq word (codes "--") ≡ true → turn (at m false) word ≡ []
  dashes_turn m word is = rw is refl

  dashes_next : (m : Met) (word : Text) → bytes_eq word (codes "--") ≡ true → next (at m false) word ≡ at m true
  unfolding walked
  dashes_next m word is = rw is refl

  -- a positional word
  file_turn : (word : Text) → is_option word ≡ false → turn (at neither false) word ≡ []
  file_turn word plain = rw (plain_unlike_dashes word plain, plain_long word plain, plain_short word plain) refl

  file_next : (word : Text) → is_option word ≡ false → next (at neither false) word ≡ at (first word) false
  unfolding walked
  file_next word plain = rw (plain_unlike_dashes word plain, plain_long word plain, plain_short word plain) refl

  schedule_turn : (f word : Text) → is_option word ≡ false → turn (at (first f) false) word ≡ []
  unfolding clap_on_literals
  schedule_turn f word plain = rw (plain_unlike_dashes word plain, plain_long word plain, plain_short word plain) refl

  schedule_next : (f word : Text) → is_option word ≡ false → next (at (first f) false) word ≡ at (second f word) false
  unfolding clap_on_literals
  schedule_next f word plain = rw (plain_unlike_dashes word plain, plain_long word plain, plain_short word plain) refl

  third_turn : (f s word : Text) → is_option word ≡ false → turn (at (second f s) false) word ≡ kind.UnknownArgument ∷ []
  third_turn f s word plain = rw (plain_unlike_dashes word plain, plain_long word plain, plain_short word plain) refl

  plain_step : (m : Met) (word : Text) (more ps : List Text) → is_option word ≡ false → ((m : Met) → Reaches (at m false) more (completed m ps)) → Reaches (at m false) (word ∷ more) (completed m (word ∷ ps))
  plain_step neither word more ps plain on =
      passes _ (at (first word) false) word more _ (file_turn word plain) (file_next word plain) (subst (λ o. Reaches (at (first word) false) more o) (pair_first word ps) (on (first word)))
  plain_step (first f) word more ps plain on =
      passes _ (at (second f word) false) word more _ (schedule_turn f word plain) (schedule_next f word plain) (subst (λ o. Reaches (at (second f word) false) more o) (pair_second f word ps) (on (second f word)))
  plain_step (second f s) word more ps plain on = stops _ word more (third_turn f s word plain)

  -- where the words after it have an option's word
  plain_fails : (m : Met) (word : Text) (more : List Text) → is_option word ≡ false → ((m : Met) → Reaches (at m false) more None) → Reaches (at m false) (word ∷ more) None
  plain_fails neither word more plain on = passes _ (at (first word) false) word more None (file_turn word plain) (file_next word plain) (on (first word))
  plain_fails (first f) word more plain on = passes _ (at (second f word) false) word more None (schedule_turn f word plain) (schedule_next f word plain) (on (second f word))
  plain_fails (second f s) word more plain on = stops _ word more (third_turn f s word plain)

  -- an option's word
  option_by : (rows : List Row) (waits : Option (Text × List Text)) (position : ℕ) (word : Text) → IsUtf8 word → bytes_eq word (codes "--") ≡ false → is_option word ≡ true
      → turn (record { held = held_with rows waits; waiting = idle; position = position; is_trailing = false; stopped = None }) word ≡ [] → ⊥
  option_by rows waits position word u dashes option none =
      let same : word_fault (shape name) [] false idle word (held_with rows waits) ≡ flag_word_fault rules false (long_of word) word (held_with rows waits) = rw dashes refl in
      let bad : kind.UnknownArgument ∷ [] ≡ [] = sym (option_refused rows waits word u dashes option) ∙ sym same ∙ first_empty _ _ none in cc

  option_turn : (m : Met) (word : Text) → IsUtf8 word → bytes_eq word (codes "--") ≡ false → is_option word ≡ true → turn (at m false) word ≡ [] → ⊥
  option_turn neither word = option_by [] None 1 word
  option_turn (first f) word = option_by [] (Some (codes "file", f ∷ [])) 2 word
  option_turn (second f s) word = option_by (row (codes "file") f file_arg ∷ []) (Some (codes "schedule", s ∷ [])) 3 word

  option_stops : (w : Walk) (word : Text) (more : List Text) → (turn w word ≡ [] → ⊥) → Reaches w (word ∷ more) None
  unfolding walk_fault
  option_stops w word more refused = λ none. refused (first_empty _ _ (first_empty _ _ none))

  -- the walk over words
  reaches : (words : List Text) → AreTexts words → (m : Met) → Reaches (at m false) words (option_and_then (completed m) (positionals words))
  reaches [] u m = ends m false
  reaches (word ∷ more) u m = go (reaches more u.1) (bytes_eq word (codes "--")) refl (is_option word) refl
    where
      plain_on : is_option word ≡ false → (o : Option (List Text)) → ((m : Met) → Reaches (at m false) more (option_and_then (completed m) o)) → Reaches (at m false) (word ∷ more) (option_and_then (completed m) (option_map (λ words. word ∷ words) o))
      plain_on plain (Some ps) on = plain_step m word more ps plain on
      plain_on plain None on = plain_fails m word more plain on

      go : ((m : Met) → Reaches (at m false) more (option_and_then (completed m) (positionals more))) → (dashes : Bool) → bytes_eq word (codes "--") ≡ dashes → (option : Bool) → is_option word ≡ option
          → Reaches (at m false) (word ∷ more) (option_and_then (completed m) (cond dashes (Some more) (cond option None (option_map (λ words. word ∷ words) (positionals more)))))
      go on true is option _ = passes _ (at m true) word more _ (dashes_turn m word is) (dashes_next m word is) (trails m more)
      go on false is true option = option_stops _ word more (option_turn m word u.0 is option)
      go on false is false plain = plain_on plain (positionals more) on

  pub words_read : (words : List Text) → AreTexts words → Reaches (at neither false) words (file_pair words)
  words_read words u = reaches words u neither

  -- ---- of a parse

  fault_is : (words : List Text) → fault_of (described_with_schedule name) words ≡ total (at neither false) words
  fault_is words = leaf_fault (built (described_with_schedule name)) nothing_held words refl

-- what the words of a parse without a fault say
pub record Said (name : Text) (words : List Text) (o : Option (Text × Text)) : Type 0 where
  pub file : Text
  pub schedule : Text
  pub is : o ≡ Some (file, schedule)
  pub file_found : first_of (codes "file") (matches_of (described_with_schedule name) words) ≡ Some file
  pub schedule_found : first_of (codes "schedule") (matches_of (described_with_schedule name) words) ≡ Some schedule

module _ (name : Text) (words : List Text) (u : AreTexts words) (faults : fault_of (described_with_schedule name) words ≡ []) where
  words_said : Said name words (file_pair words)
  words_said = go (file_pair words) (words_read name words u)
    where
      go : (o : Option (Text × Text)) → Reaches name (at neither false) words o → Said name words o
      go None reaches = absurd (reaches (sym (fault_is name words) ∙ faults))
      go (Some p) reaches = record { file = p.0; schedule = p.1; is = refl; file_found = reaches.1; schedule_found = reaches.2 }

pub words_refused : (name : Text) (words : List Text) → AreTexts words → (e : ErrorKind) → (e ≡ kind.OutOfMemory) ⊎ IsAmong e (fault_of (described_with_schedule name) words) → (e ≡ kind.OutOfMemory → ⊥) → None ≡ file_pair words
words_refused name words u e fails other = go (file_pair words) (words_read name words u) fails
  where
    go : (o : Option (Text × Text)) → Reaches name (at neither false) words o → (e ≡ kind.OutOfMemory) ⊎ IsAmong e (fault_of (described_with_schedule name) words) → None ≡ o
    go None reaches fails = refl
    go (Some p) reaches (inl memory) = absurd (other memory)
    go (Some p) reaches (inr among) = let bad : ⊥ = subst (λ (kinds : Kinds). IsAmong e kinds) (fault_is name words ∙ reaches.0) among in absurd bad

-- what a caller reads of the matches
module _ (name : Text) (words : List Text) (u : AreTexts words) (a : App) (is : a ≡ described_with_schedule name) (faults : fault_of a words ≡ []) (f : Found) (rows : rows_of f ≡ matches_of a words) where
  said_is : Said name words (file_pair words)
  said_is = words_said name words u (sym (ap (λ (a : App). fault_of a words) is) ∙ faults)

  rows_are : rows_of f ≡ matches_of (described_with_schedule name) words
  rows_are = rows ∙ ap (λ (a : App). matches_of a words) is

  file_read : first_value f (codes "file") ≡ Some said_is.file
  file_read = first_value-rows f (codes "file") ∙ ap (first_of (codes "file")) rows_are ∙ said_is.file_found

  schedule_read : first_value f (codes "schedule") ≡ Some said_is.schedule
  schedule_read = first_value-rows f (codes "schedule") ∙ ap (first_of (codes "schedule")) rows_are ∙ said_is.schedule_found

  pub has_file : None ≡ first_value f (codes "file") → ⊥
  has_file none = let bad : None ≡ Some said_is.file = none ∙ file_read in cc

  pub has_schedule : None ≡ first_value f (codes "schedule") → ⊥
  has_schedule none = let bad : None ≡ Some said_is.schedule = none ∙ schedule_read in cc

  pub answered : (file schedule : Text) → Some file ≡ first_value f (codes "file") → Some schedule ≡ first_value f (codes "schedule") → Some (file, schedule) ≡ file_pair words
  answered file schedule found found_then =
      let file_is : Some file ≡ Some said_is.file = found ∙ file_read in
      let schedule_is : Some schedule ≡ Some said_is.schedule = found_then ∙ schedule_read in
      ap (λ (f : Option Text). option_map (λ (t : Text). (t, schedule)) f) file_is
      ∙ ap (λ (s : Option Text). option_map (λ (t : Text). (said_is.file, t)) s) schedule_is
      ∙ sym said_is.is
