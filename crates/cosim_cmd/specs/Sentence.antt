-- Which lists of words are sentences, and what they say.
use Rattle.std.specs.Prelude.{ℕ, Bool, true, false, ◌==◌, String, List, [], ◌∷◌, map, codes, Option, Some, None, option_map, option_and_then, if◌then◌else◌}
use Rattle.std.specs.Str.{bytes_eq}
use Rattle.std.specs.String.{string_bytes}
use Rattle.std.specs.declared.alloc.Global.{Global}

abbrev pub Text : Type 0
Text = List ℕ

-- the bytes of each word
abbrev pub texts : List (String Global) → List Text
texts words = map string_bytes words

-- a word that begins with `-` and isn't `-` alone
abbrev pub is_option : Text → Bool
is_option [] = false
is_option (b ∷ []) = false
is_option (b ∷ (c ∷ more)) = b == 45

-- the positional words in their order; None where a word is an option's, since no command has an option. After a
-- word `--`, which is itself not counted, every word is positional
abbrev pub positionals : List Text → Option (List Text)
positionals [] = Some []
positionals (word ∷ more) =
    if bytes_eq word (codes "--") then Some more
    else if is_option word then None
    else option_map (λ words. word ∷ words) (positionals more)

-- the word of a list of one
abbrev pub single : List Text → Option Text
single [] = None
single (word ∷ []) = Some word
single (word ∷ (other ∷ more)) = None

-- the two words of a list of two
abbrev pub pair : List Text → Option (Text × Text)
pair [] = None
pair (word ∷ []) = None
pair (word ∷ (other ∷ [])) = Some (word, other)
pair (word ∷ (other ∷ (third ∷ more))) = None

-- the one positional word
abbrev pub file_word : List Text → Option Text
file_word words = option_and_then single (positionals words)

-- the two positional words
abbrev pub file_pair : List Text → Option (Text × Text)
file_pair words = option_and_then pair (positionals words)

-- ---- with an option that has no value

-- the positional words, and those of options, each in their order
abbrev pub operands : List Text → List Text
operands [] = []
operands (word ∷ more) =
    if bytes_eq word (codes "--") then more
    else if is_option word then operands more
    else word ∷ operands more

abbrev pub options : List Text → List Text
options [] = []
options (word ∷ more) =
    if bytes_eq word (codes "--") then []
    else if is_option word then word ∷ options more
    else options more

-- whether the option is among these, which are none or that one
abbrev pub is_given : Text → List Text → Option Bool
is_given option [] = Some false
is_given option (word ∷ []) = if bytes_eq word option then Some true else None
is_given option (word ∷ (other ∷ more)) = None

abbrev pub both : {A B : Type 0} → Option A → Option B → Option (A × B)
both None b = None
both (Some a) None = None
both (Some a) (Some b) = Some (a, b)

-- the one positional word, and whether the option is given
abbrev pub word_and_flag : Text → List Text → Option (Text × Bool)
word_and_flag option words = both (single (operands words)) (is_given option (options words))

-- what the words say: a command and its files
pub data Sentence : Type 0 where
  Check : Text → Sentence
  Model : (file : Text) (stats : Bool) → Sentence
  Serial : (file : Text) (stats : Bool) → Sentence
  Replay : (file schedule : Text) → Sentence
  Asm : Text → Sentence

-- the file that is read first
abbrev pub file_of : Sentence → Text
file_of (Check file) = file
file_of (Model file stats) = file
file_of (Serial file stats) = file
file_of (Replay file schedule) = file
file_of (Asm file) = file

-- the first word is the command's name, and the words after it are the command's own
abbrev pub sentence_of : List Text → Option Sentence
sentence_of [] = None
sentence_of (command ∷ words) =
    if bytes_eq command (codes "check") then option_map Check (file_word words)
    else if bytes_eq command (codes "model") then option_map (λ p. Model p.0 p.1) (word_and_flag (codes "--stats") words)
    else if bytes_eq command (codes "serial") then option_map (λ p. Serial p.0 p.1) (word_and_flag (codes "--stats") words)
    else if bytes_eq command (codes "replay") then option_map (λ p. Replay p.0 p.1) (file_pair words)
    else if bytes_eq command (codes "asm") then option_map Asm (file_word words)
    else None
