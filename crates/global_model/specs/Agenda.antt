-- When each component has something to do next.
use Rattle.std.specs.Prelude.{ℕ, ◌≡◌, nat_le, Bool, false, List, Option, Some, None, slice_get, slice_set, slice_index_or}
use Rattle.moment_tree.specs.declared.agenda.Moment.{Moment}
use Rattle.moment_tree.specs.Dues.{sooner, IsFirst}

-- whether a time, if there is one, is at t or before
abbrev pub covers : ℕ → Option ℕ → Bool
covers t None = false
covers t (Some due) = nat_le due t

-- whether the agenda has component c at t or before
abbrev pub has : ℕ → ℕ → List (Option ℕ) → Bool
has t c dues = covers t (slice_index_or dues c None)

-- component c has something to do at t, and maybe sooner
abbrev pub note : ℕ → ℕ → List (Option ℕ) → List (Option ℕ)
note t c dues = slice_set dues c (Some (sooner t (slice_index_or dues c None)))

-- a moment is the first
pub record IsNext (m : Moment) (dues : List (Option ℕ)) : Type 0 where
  pub there : slice_get dues m.component ≡ Some (Some m.at)
  pub first : IsFirst m.at m.component dues
