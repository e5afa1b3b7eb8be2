-- The joined log: all lines, by time, then by component, then by place in the component's log.
use Rattle.std.specs.Prelude.{ℕ, ◌==◌, zero, suc, List, [], ◌∷◌, ◌++◌, filter, decimal}
use Rattle.device_api.specs.declared.logs.Line.{Line}

-- a line of the text: the time in decimal digits, a space, the component's name, a space, the line, a line feed
abbrev pub text_of : List ℕ → Line → List ℕ
text_of name line = decimal line.at ++ 32 ∷ name ++ 32 ∷ line.text ++ 10 ∷ []

-- the lines of one component, one after another
abbrev pub texts_of : List ℕ → List Line → List ℕ
texts_of name [] = []
texts_of name (line ∷ more) = text_of name line ++ texts_of name more

-- what a component logged at t, in order
abbrev pub lines_at : ℕ → List Line → List Line
lines_at t log = filter (λ line. line.at == t) log

-- what all components logged at t: one component after another
abbrev pub joined_at : ℕ → List (List ℕ) → List (List Line) → List ℕ
joined_at t [] logs = []
joined_at t (name ∷ names) [] = []
joined_at t (name ∷ names) (log ∷ logs) = texts_of name (lines_at t log) ++ joined_at t names logs

-- what was logged before a time: one moment after another
unfoldable pub joined_until : ℕ → List (List ℕ) → List (List Line) → List ℕ
joined_until zero names logs = []
joined_until (suc t) names logs = joined_until t names logs ++ joined_at t names logs
