-- What the words of the command line ask for: a command on files, or `load`.
use Rattle.std.specs.Prelude.{ℕ, ◌≤◌, Bool, List, [], ◌∷◌, Option, None, ⊤, codes, decimal, find, option_map, option_and_then, if◌then◌else◌}
use Rattle.std.specs.List.{range_with_len}
use Rattle.std.specs.Str.{bytes_eq}
use Rattle.cosim_cmd.specs.Sentence.{Text, Sentence, word_and_flag, sentence_of}

pub data Request : Type 0 where
  OnFiles : Sentence → Request
  Load : (stations : ℕ) (text : Bool) → Request

-- the number from 1 to 30 whose decimal digits a word is
unfoldable pub station_count : Text → Option ℕ
station_count word = find (λ n. bytes_eq (decimal n) word) (range_with_len 1 30)

pub record IsStationCount (n : ℕ) : Type 0 where
  pub least : 1 ≤ n
  pub most : n ≤ 30

-- the one positional word is a number of stations; and whether `--text` is given
abbrev pub stations_and_text : List Text → Option (ℕ × Bool)
stations_and_text words = option_and_then (λ p. option_map (λ n. (n, p.1)) (station_count p.0)) (word_and_flag (codes "--text") words)

abbrev pub request_of : List Text → Option Request
request_of [] = None
request_of (command ∷ words) =
    if bytes_eq command (codes "load") then option_map (λ p. Load p.0 p.1) (stations_and_text words)
    else option_map OnFiles (sentence_of (command ∷ words))

-- a number of stations is 1 to 30
abbrev pub HasStations : Request → Type 0
HasStations (OnFiles s) = ⊤
HasStations (Load stations text) = IsStationCount stations
