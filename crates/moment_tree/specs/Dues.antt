-- When each component has something to do next; None for one that has nothing to do.
use Rattle.std.specs.Prelude.{ℕ, ◌≡◌, ◌≢◌, ◌≤◌, min, List, Option, Some, None, slice_get}
use Rattle.moment_tree.specs.Places.{clock}

-- the sooner of a time and one that there may be
abbrev pub sooner : ℕ → Option ℕ → ℕ
sooner at None = at
sooner at (Some due) = min at due

-- no component's time is before t, nor at t where the component is below c
abbrev pub IsFirst : ℕ → ℕ → List (Option ℕ) → Type 0
IsFirst t c dues = (d u : ℕ) → slice_get dues d ≡ Some (Some u) → clock t c d ≤ u

-- no other component's time is
abbrev pub IsFirstBut : ℕ → ℕ → ℕ → List (Option ℕ) → Type 0
IsFirstBut own t c dues = (d u : ℕ) → d ≢ own → slice_get dues d ≡ Some (Some u) → clock t c d ≤ u

-- no other component has a time
abbrev pub IsAlone : ℕ → List (Option ℕ) → Type 0
IsAlone own dues = (d : ℕ) (due : Option ℕ) → d ≢ own → slice_get dues d ≡ Some due → due ≡ None
