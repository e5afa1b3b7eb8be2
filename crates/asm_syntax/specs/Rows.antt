-- Tables of names.
use Rattle.std.specs.Prelude.{ℕ, List, [], ◌∷◌, Option, Some, None, if◌then◌else◌}
use Rattle.std.specs.Str.{bytes_eq}

-- what the row of a name says
abbrev pub select : {X : Type 0} → List ℕ → List (List ℕ × X) → Option X
select name [] = None
select name (row ∷ rows) = if bytes_eq name row.0 then Some row.1 else select name rows
