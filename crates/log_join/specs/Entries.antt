-- Lines with the names of the components that logged them.
use Rattle.std.specs.Prelude.{ℕ, ◌≡◌, List, [], ◌∷◌, ◌++◌, map}
use Rattle.std.specs.List.{flat_map, zip}
use Rattle.device_api.specs.declared.logs.Line.{Line}
use Rattle.device_api.specs.Joined.{text_of}
use Rattle.log_join.specs.declared.entry.Entry.{Entry}

-- a line with its component's name
abbrev pub named_line : Entry → List ℕ × Line
named_line entry = (entry.name.now, entry.line.now)

-- the lines of one component, each with its name
abbrev pub named_lines : List ℕ × List Line → List (List ℕ × Line)
named_lines log = map (λ line. (log.0, line)) log.1

-- the lines of all components, one component after another
abbrev pub all_named_lines : List (List ℕ) → List (List Line) → List (List ℕ × Line)
all_named_lines names logs = flat_map named_lines (zip names logs)

abbrev pub entry_text : Entry → List ℕ
entry_text entry = text_of entry.name.now entry.line.now

-- these entries are the lines of all components
abbrev pub AreAll : List (List ℕ) → List (List Line) → List Entry → Type 0
AreAll names logs entries = map named_line entries ≡ all_named_lines names logs

-- a name with a space before and behind it
abbrev pub spaced : List ℕ → List ℕ
spaced name = 32 ∷ name ++ 32 ∷ []
