-- Logs in the order of time.
use Rattle.std.specs.Prelude.{ℕ, ◌≤◌, ◌<◌, ◌^◌, List, [], ◌∷◌, Option, Some, None}
use Rattle.device_api.specs.declared.logs.Line.{Line}

-- the time of a log's first line, if there is one
abbrev pub head_time : List Line → Option ℕ
head_time [] = None
head_time (line ∷ more) = Some line.at

-- the time of a log's second line, if there is one
abbrev pub second_time : List Line → Option ℕ
second_time [] = None
second_time (line ∷ more) = head_time more

-- no line is before t or before the one in front of it, and each is at a time which an agenda can hold
abbrev pub IsFrom : ℕ → List Line → Type 0
IsFrom t [] = Unit {0}
IsFrom t (line ∷ more) = (t ≤ line.at) × (line.at < 2 ^ 57) × IsFrom line.at more
