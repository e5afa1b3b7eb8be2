-- The sentence of `run`: `run <file> --workers <n> [--stats]`.
use Rattle.std.specs.Prelude.{ℕ, ◌≡◌, ◌≤◌, Bool, List, [], ◌∷◌, ◌++◌, take, drop, codes, decimal, Option, Some, None, option_map, if◌then◌else◌}
use Rattle.std.specs.Str.{bytes_eq}
use Rattle.cosim_cmd.specs.Sentence.{Text, word_and_flag}

-- what it says
pub record Run : Type 0 where
  pub file : Text
  pub workers : ℕ
  pub stats : Bool

-- a word as the value, and those after it
abbrev pub first_and_rest : List Text → Option (Text × List Text)
first_and_rest [] = None
first_and_rest (value ∷ more) = Some (value, more)

-- a value and other words, with words before these
abbrev pub onto : List Text → Option (Text × List Text) → Option (Text × List Text)
onto words found = option_map (λ found. (found.0, words ++ found.1)) found

-- the value of the option `--workers`, which is the word after it or stands behind its `=`, and all
-- other words; after a word `--` no word is an option's
abbrev pub workers_and_rest : List Text → Option (Text × List Text)
workers_and_rest [] = None
workers_and_rest (word ∷ more) =
    if bytes_eq word (codes "--") then None
    else if bytes_eq word (codes "--workers") then first_and_rest more
    else if bytes_eq (take 10 word) (codes "--workers=") then Some (drop 10 word, more)
    else onto (word ∷ []) (workers_and_rest more)

-- a value is a number from 1 to 64, in decimal digits without a sign or a leading zero
pub record IsWorkers (value : Text) (workers : ℕ) : Type 0 where
  pub some : 1 ≤ workers
  pub few : workers ≤ 64
  pub spelled : value ≡ decimal workers

-- the one positional word, and whether `--stats` is given
abbrev pub file_and_stats : List Text → Option (Text × Bool)
file_and_stats words = word_and_flag (codes "--stats") words

-- the words are the command's name, the option `--workers` with a number, and in any order with it
-- one file and maybe `--stats`
pub record SaysRun (words : List Text) (run : Run) : Type 0 where
  pub more : List Text
  pub command : words ≡ codes "run" ∷ more
  pub value : Text
  pub others : List Text
  pub taken : workers_and_rest more ≡ Some (value, others)
  pub number : IsWorkers value run.workers
  pub rest : file_and_stats others ≡ Some (run.file, run.stats)

abbrev pub SaysNoRun : List Text → Type 0
SaysNoRun words = (run : Run) → SaysRun words run → ⊥

-- the words are a sentence of `run`, and of it a fact holds
pub record OfRun (words : List Text) (P : Run → Type 0) : Type 0 where
  pub run : Run
  pub says : SaysRun words run
  pub fact : P run
