-- What a replay prints.
use Rattle.std.specs.Prelude.{ℕ, ◌≡◌, Bool, true, false, List, ◌∷◌, [], ◌++◌, codes}
use Rattle.device_api.specs.declared.logs.Line.{Line}
use Rattle.device_api.specs.Joined.{joined_until}
use Rattle.log_join.specs.Before.{AreBefore}

abbrev pub state_line : Bool → List ℕ
state_line true = codes "state ended" ++ 10 ∷ []
state_line false = codes "state running" ++ 10 ∷ []

-- the joined log of all that was logged, and behind it whether all components have ended
abbrev pub IsReport : List (List ℕ) → List (List Line) → Bool → List ℕ → Type 0
IsReport names logs ended text = (end : ℕ) → AreBefore end logs → text ≡ joined_until end names logs ++ state_line ended
