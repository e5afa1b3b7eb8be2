-- When a time is after all that was logged.
use Rattle.std.specs.Prelude.{ℕ, ◌≡◌, ◌<◌, List, All}
use Rattle.device_api.specs.declared.logs.Line.{Line}
use Rattle.device_api.specs.Joined.{joined_until}

-- each line of a log is before a time
abbrev pub IsBefore : ℕ → List Line → Type 0
IsBefore end log = All (λ (line : Line). line.at < end) log

-- each line of every log is before a time
abbrev pub AreBefore : ℕ → List (List Line) → Type 0
AreBefore end logs = All (IsBefore end) logs

-- a text is the joined log of all that was logged
abbrev pub IsJoined : List (List ℕ) → List (List Line) → List ℕ → Type 0
IsJoined names logs text = (end : ℕ) → AreBefore end logs → text ≡ joined_until end names logs
