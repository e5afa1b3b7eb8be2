-- What `clap` makes of the words of a command with one required file and no options.
use Rattle.std.proofs.Common.{ℕ, ◌≡◌, Bool, true, false, List, [], ◌∷◌, Option, Some, None, refl, ap, ap₂, sym, subst, ◌∙◌, length, cond, eqb, true≢false, ◌⊎◌, inl, inr}
use Rattle.std.specs.Prelude.{slice_get, codes, IsUtf8, fold, option_map, option_and_then}
use Rattle.std.specs.Prelude.{String}
use Rattle.std.specs.Option.{option_map_or}
use Rattle.std.specs.declared.alloc.Global.{Global}
use Rattle.std.proofs.lemmas.Str.{IsUtf8-string_bytes}
use Rattle.std.specs.Str.{bytes_eq, chars}
use Rattle.clap.specs.Lexer.{long_of, short_of}
use Rattle.clap.specs.Walk.{Rule, Text, Walk, Held, Row, walked, walk, nothing_held, walk_from, idle, first_of, finished, settled, word_met}
use Rattle.clap.specs.Simple.{Shape, built, filled, with_index, matches_of}
use Rattle.clap.specs.Faults.{fault_of, flag_word_fault, walk_fault, flags_fault, defaults_fault, settle_fault, check_fault, is_simple_and_free, turn_fault, step_fault, word_fault, bundle_fault, bundle_step_fault}
use Rattle.clap.specs.Kinds.{Kinds, or_else, IsAmong}
use Rattle.clap.specs.declared.error.kind.ErrorKind.{ErrorKind}
use Rattle.clap.specs.declared.error.kind.ErrorKind.TheVariants as kind
use Rattle.clap.proofs.OnLiterals.{clap_on_literals}
use Rattle.clap.proofs.FaultLemmas.{leaf_fault}
use Rattle.cosim_cmd.specs.Sentence.{is_option, positionals, single, file_word, texts}
use Rattle.cosim_cmd.specs.Said.{file_rule, described}
use Rattle.cosim_cmd.proofs.WordKinds.{first_after_hyphen, plain_long, plain_short, plain_unlike_dashes}

-- the command as it is built
abbrev rule : Rule
rule = with_index 1 (filled file_rule)

abbrev shape : Text → Shape
shape name = (built (described name)).top

pub is_described : (name : Text) → is_simple_and_free (described name) ≡ true
is_described name = refl

-- no value is found yet; one may be pending
abbrev held_at : Option (Text × List Text) → Held
held_at pending = record { rows = []; pending = pending; skip = 0 }

-- a word of an option is refused
short_refused : (again : Bool) (c x : ℕ) (more : Text) (pending : Option (Text × List Text)) → slice_get (chars (c ∷ more)) 0 ≡ Some x → bundle_fault (rule ∷ []) again (c ∷ more) (held_at pending) ≡ kind.UnknownArgument ∷ []
unfolding flags_fault
short_refused again c x more pending first =
    ap (λ (o : Option ℕ). bundle_step_fault (rule ∷ []) again o (c ∷ more) 0 (held_at pending) (flags_fault (rule ∷ []) again (length more))) first

option_refused : (again : Bool) (word : Text) (pending : Option (Text × List Text)) → IsUtf8 word → bytes_eq word (codes "--") ≡ false → is_option word ≡ true → flag_word_fault (rule ∷ []) again (long_of word) word (held_at pending) ≡ kind.UnknownArgument ∷ []
unfolding flags_fault
option_refused again [] pending u other option = cc
option_refused again (b ∷ []) pending u other option = cc
option_refused again (b ∷ (c ∷ more)) pending u other option = go (eqb c 45) refl more u other
  where
    go : (hyphen : Bool) → eqb c 45 ≡ hyphen → (more : Text) → IsUtf8 (b ∷ c ∷ more) → bytes_eq (b ∷ c ∷ more) (codes "--") ≡ false → flag_word_fault (rule ∷ []) again (long_of (b ∷ c ∷ more)) (b ∷ c ∷ more) (held_at pending) ≡ kind.UnknownArgument ∷ []
    go true is [] u other = let bad : true ≡ false = rw (option, is) at other in absurd (true≢false bad)
    go true is (x ∷ xs) u other = rw (option, is) refl
    go false is more u other =
        let first = first_after_hyphen b c more u option in
        let long_is : long_of (b ∷ c ∷ more) ≡ None = rw (option, is) refl in
        let short_is : short_of (b ∷ c ∷ more) ≡ Some (c ∷ more) = rw (option, is) refl in
        ap (λ (l : Option (Text × Option Text)). flag_word_fault (rule ∷ []) again l (b ∷ c ∷ more) (held_at pending)) long_is
        ∙ ap (λ (s : Option Text). option_map_or (λ (flags : Text). bundle_fault (rule ∷ []) again flags (held_at pending)) s []) short_is
        ∙ short_refused again c first.0 more pending first.1

-- ---- the walk over the words: how far it is

abbrev at : Option (Text × List Text) → ℕ → Bool → Walk
at pending position rest = record { held = held_at pending; waiting = idle; position = position; is_trailing = rest; stopped = None }

-- before the file, and after it
abbrev before : Bool → Walk
before rest = at None 1 rest

abbrev file_held : Text → Held
file_held file = held_at (Some (codes "file", file ∷ []))

abbrev given : Text → Bool → Walk
given file rest = at (Some (codes "file", file ∷ [])) 2 rest

module _ (name : Text) where
  abbrev fault : Walk → List Text → Kinds
  fault w words = walk_fault (shape name) [] w words

  abbrev turn : Walk → Text → Kinds
  turn w word = turn_fault (shape name) [] w word

  abbrev next : Walk → Text → Walk
  next w word = walked (rule ∷ []) [] w word

  abbrev Ends : Walk → List Text → Held → Type 0
  Ends w words h = (fault w words ≡ []) × ((fold next w words).held ≡ h)

  abbrev Fails : Walk → List Text → Type 0
  Fails w words = fault w words ≡ [] → ⊥

  -- one word
  dashes_turn : (word : Text) (pending : Option (Text × List Text)) (position : ℕ) → bytes_eq word (codes "--") ≡ true → turn (at pending position false) word ≡ []
  dashes_turn word pending position is = rw is refl

  dashes_next : (word : Text) (pending : Option (Text × List Text)) (position : ℕ) → bytes_eq word (codes "--") ≡ true → next (at pending position false) word ≡ at pending position true
  unfolding walked
  dashes_next word pending position is = rw is refl

  option_turn : (word : Text) (pending : Option (Text × List Text)) (position : ℕ) → IsUtf8 word → bytes_eq word (codes "--") ≡ false → is_option word ≡ true → turn (at pending position false) word ≡ kind.UnknownArgument ∷ []
  option_turn word pending position u other option =
      let met : Held × Rattle.clap.specs.Walk.Step = word_met (rule ∷ []) [] false idle position word (held_at pending) in
      let word_is : word_fault (shape name) [] false idle word (held_at pending) ≡ kind.UnknownArgument ∷ [] = rw other (option_refused false word pending u other option) in
      ap (λ (k : Kinds). or_else k (step_fault (shape name) position met.0 met.1)) word_is

  second_turn : (word file : Text) → is_option word ≡ false → turn (given file false) word ≡ kind.UnknownArgument ∷ []
  second_turn word file plain = rw (plain_unlike_dashes word plain, plain_long word plain, plain_short word plain) refl

  first_turn : (word : Text) → is_option word ≡ false → turn (before false) word ≡ []
  first_turn word plain = rw (plain_unlike_dashes word plain, plain_long word plain, plain_short word plain) refl

  first_next : (word : Text) → is_option word ≡ false → next (before false) word ≡ given word false
  unfolding walked
  first_next word plain = rw (plain_unlike_dashes word plain, plain_long word plain, plain_short word plain) refl

  -- and the words after it
  ends_after : (w then : Walk) (word : Text) (more : List Text) (h : Held) → turn w word ≡ [] → next w word ≡ then → Ends then more h → Ends w (word ∷ more) h
  unfolding walk_fault
  ends_after w then word more h passed step ends =
      (ap₂ (λ (k : Kinds) (v : Walk). or_else k (fault v more)) passed step ∙ ends.0, ap (λ (v : Walk). (fold next v more).held) step ∙ ends.1)

  fails_after : (w then : Walk) (word : Text) (more : List Text) → turn w word ≡ [] → next w word ≡ then → Fails then more → Fails w (word ∷ more)
  unfolding walk_fault
  fails_after w then word more passed step fails = λ none. fails (sym (ap₂ (λ (k : Kinds) (v : Walk). or_else k (fault v more)) passed step) ∙ none)

  fails_here : (w : Walk) (word : Text) (more : List Text) → turn w word ≡ kind.UnknownArgument ∷ [] → Fails w (word ∷ more)
  unfolding walk_fault
  fails_here w word more refused =
      λ none. let bad : kind.UnknownArgument ∷ [] ≡ [] = sym (ap (λ (k : Kinds). or_else k (fault (next w word) more)) refused) ∙ none in cc

  -- what the positional words make of the walk
  abbrev Given : Text → Bool → List Text → Option (List Text) → Type 0
  Given file rest words (Some []) = Ends (given file rest) words (file_held file)
  Given file rest words (Some (p ∷ ps)) = Fails (given file rest) words
  Given file rest words None = Fails (given file rest) words

  abbrev Before : Bool → List Text → Option (List Text) → Type 0
  Before rest words (Some []) = Ends (before rest) words (held_at None)
  Before rest words (Some (p ∷ [])) = Ends (before rest) words (file_held p)
  Before rest words (Some (p ∷ (q ∷ ps))) = Fails (before rest) words
  Before rest words None = Fails (before rest) words

  given_after_dashes : (file : Text) (words : List Text) → Given file true words (Some words)
  unfolding walk_fault walked
  given_after_dashes file [] = (refl, refl)
  given_after_dashes file (word ∷ more) = λ none. cc

  before_after_dashes : (words : List Text) → Before true words (Some words)
  unfolding walk_fault walked
  before_after_dashes [] = (refl, refl)
  before_after_dashes (word ∷ []) = (refl, refl)
  before_after_dashes (word ∷ (other ∷ more)) = λ none. cc

  given_past_dashes : (file word : Text) (more : List Text) → bytes_eq word (codes "--") ≡ true → (o : Option (List Text)) → Given file true more o → Given file false (word ∷ more) o
  given_past_dashes file word more is (Some []) g = ends_after _ (given file true) word more _ (dashes_turn word _ 2 is) (dashes_next word _ 2 is) g
  given_past_dashes file word more is (Some (p ∷ ps)) g = fails_after _ (given file true) word more (dashes_turn word _ 2 is) (dashes_next word _ 2 is) g
  given_past_dashes file word more is None g = fails_after _ (given file true) word more (dashes_turn word _ 2 is) (dashes_next word _ 2 is) g

  before_past_dashes : (word : Text) (more : List Text) → bytes_eq word (codes "--") ≡ true → (o : Option (List Text)) → Before true more o → Before false (word ∷ more) o
  before_past_dashes word more is (Some []) g = ends_after _ (before true) word more _ (dashes_turn word _ 1 is) (dashes_next word _ 1 is) g
  before_past_dashes word more is (Some (p ∷ [])) g = ends_after _ (before true) word more _ (dashes_turn word _ 1 is) (dashes_next word _ 1 is) g
  before_past_dashes word more is (Some (p ∷ (q ∷ ps))) g = fails_after _ (before true) word more (dashes_turn word _ 1 is) (dashes_next word _ 1 is) g
  before_past_dashes word more is None g = fails_after _ (before true) word more (dashes_turn word _ 1 is) (dashes_next word _ 1 is) g

abbrev pub AreTexts : List Text → Type 0
AreTexts [] = Unit {0}
AreTexts (word ∷ more) = IsUtf8 word × AreTexts more

pub AreTexts-texts : (words : List (String Global)) → AreTexts (texts words)
AreTexts-texts [] = tt
AreTexts-texts (word ∷ more) = (IsUtf8-string_bytes word, AreTexts-texts more)

module _ (name : Text) where
  given_from : (file : Text) (words : List Text) → AreTexts words → Given name file false words (positionals words)
  unfolding walk_fault
  given_from file [] u = (refl, refl)
  given_from file (word ∷ more) u = go (bytes_eq word (codes "--")) refl (is_option word) refl
    where
      second : is_option word ≡ false → (o : Option (List Text)) → Given name file false (word ∷ more) (option_map (λ words. word ∷ words) o)
      second plain (Some ps) = fails_here name (given file false) word more (second_turn name word file plain)
      second plain None = fails_here name (given file false) word more (second_turn name word file plain)

      go : (dashes : Bool) → bytes_eq word (codes "--") ≡ dashes → (option : Bool) → is_option word ≡ option
          → Given name file false (word ∷ more) (cond dashes (Some more) (cond option None (option_map (λ words. word ∷ words) (positionals more))))
      go true is option _ = given_past_dashes name file word more is (Some more) (given_after_dashes name file more)
      go false is true option = fails_here name (given file false) word more (option_turn name word _ 2 u.0 is option)
      go false is false plain = second plain (positionals more)

  before_from : (words : List Text) → AreTexts words → Before name false words (positionals words)
  unfolding walk_fault
  before_from [] u = (refl, refl)
  before_from (word ∷ more) u = go (bytes_eq word (codes "--")) refl (is_option word) refl
    where
      first : is_option word ≡ false → (o : Option (List Text)) → Given name word false more o → Before name false (word ∷ more) (option_map (λ words. word ∷ words) o)
      first plain (Some []) g = ends_after name (before false) (given word false) word more (file_held word) (first_turn name word plain) (first_next name word plain) g
      first plain (Some (p ∷ ps)) g = fails_after name (before false) (given word false) word more (first_turn name word plain) (first_next name word plain) g
      first plain None g = fails_after name (before false) (given word false) word more (first_turn name word plain) (first_next name word plain) g

      go : (dashes : Bool) → bytes_eq word (codes "--") ≡ dashes → (option : Bool) → is_option word ≡ option
          → Before name false (word ∷ more) (cond dashes (Some more) (cond option None (option_map (λ words. word ∷ words) (positionals more))))
      go true is option _ = before_past_dashes name word more is (Some more) (before_after_dashes name more)
      go false is true option = fails_here name (before false) word more (option_turn name word _ 1 u.0 is option)
      go false is false plain = first plain (positionals more) (given_from word more u.1)

  -- after the walk
  abbrev end_fault : Held → Kinds
  end_fault h = or_else (settle_fault (rule ∷ []) false h) (or_else (defaults_fault (settled (rule ∷ []) h).rows (rule ∷ [])) (check_fault (shape name) (finished (rule ∷ []) h) false))

  fault_is : (words : List Text) → fault_of (described name) words ≡ or_else (fault name (before false) words) (end_fault (fold (next name) (before false) words).held)
  fault_is words = leaf_fault (built (described name)) nothing_held words refl

  ended : (words : List Text) (h : Held) → Ends name (before false) words h → fault_of (described name) words ≡ end_fault h
  ended words h ends = fault_is words ∙ ap₂ (λ (k : Kinds) (h : Held). or_else k (end_fault h)) ends.0 ends.1

  first_empty : (a b : Kinds) → or_else a b ≡ [] → a ≡ []
  first_empty [] b e = refl
  first_empty (k ∷ ks) b e = cc

  failed : (words : List Text) → Fails name (before false) words → fault_of (described name) words ≡ [] → ⊥
  failed words fails none = fails (first_empty _ _ (sym (fault_is words) ∙ none))

  without_file : end_fault (held_at None) ≡ kind.MissingRequiredArgument ∷ []
  unfolding clap_on_literals
  without_file = refl

  with_file : (file : Text) → end_fault (file_held file) ≡ []
  unfolding clap_on_literals
  with_file file = refl

  file_found : (file : Text) → first_of (codes "file") (finished (rule ∷ []) (file_held file)) ≡ Some file
  unfolding clap_on_literals
  file_found file = refl

  -- the words are taken where they are one positional word, and that word is the file
  abbrev pub Takes : List Text → Option Text → Type 0
  Takes words (Some file) = (fault_of (described name) words ≡ []) × (first_of (codes "file") (matches_of (described name) words) ≡ Some file)
  Takes words None = fault_of (described name) words ≡ [] → ⊥

  takes : (words : List Text) (o : Option (List Text)) → Before name false words o → Takes words (option_and_then single o)
  takes words (Some []) ends = λ none. let bad : kind.MissingRequiredArgument ∷ [] ≡ [] = sym (ended words (held_at None) ends ∙ without_file) ∙ none in cc
  takes words (Some (file ∷ [])) ends =
      (ended words (file_held file) ends ∙ with_file file, ap (λ (h : Held). first_of (codes "file") (finished (rule ∷ []) h)) ends.1 ∙ file_found file)
  takes words (Some (p ∷ (q ∷ ps))) fails = failed words fails
  takes words None fails = failed words fails

  pub file_taken : (words : List Text) → AreTexts words → Takes words (file_word words)
  file_taken words u = takes words (positionals words) (before_from words u)

  pub taken : (words : List Text) (o : Option Text) → Takes words o → fault_of (described name) words ≡ [] → first_of (codes "file") (matches_of (described name) words) ≡ o
  taken words (Some file) takes none = takes.1
  taken words None takes none = absurd (takes none)

  pub refused : (words : List Text) (o : Option Text) (e : ErrorKind) → Takes words o → (e ≡ kind.OutOfMemory) ⊎ IsAmong e (fault_of (described name) words) → (e ≡ kind.OutOfMemory → ⊥) → None ≡ o
  refused words None e takes fails other = refl
  refused words (Some file) e takes (inl memory) other = absurd (other memory)
  refused words (Some file) e takes (inr among) other = let bad : ⊥ = subst (λ (kinds : Kinds). IsAmong e kinds) takes.0 among in absurd bad
