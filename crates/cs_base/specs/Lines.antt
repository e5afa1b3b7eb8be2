-- The lines of a byte text.
use Rattle.std.specs.Prelude.{ℕ, List, [], ◌∷◌, ◌==◌, if◌then◌else◌}
use Rattle.std.specs.List.{onto_first}

-- a text split at its line feeds, without an empty last line
unfoldable pub lines_of : List ℕ → List (List ℕ)
lines_of [] = []
lines_of (byte ∷ more) = if byte == 10 then [] ∷ lines_of more else onto_first byte (lines_of more)
