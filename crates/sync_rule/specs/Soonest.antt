-- The first of the least times in a list.
use Rattle.std.specs.Prelude.{ℕ, ◌≡◌, ◌≤◌, ◌<◌, nat_lt, List, slice_get, Option, Some, None, MatchOption, if◌then◌else◌}
use Rattle.sync_rule.specs.declared.timer.Timer.{Timer}

-- an element with a number that has a time
pub record IsTimed {X : Type 0} (time_of : X → Option ℕ) (xs : List X) (p t : ℕ) : Type 0 where
  pub is : X
  pub there : slice_get xs p ≡ Some is
  pub at_time : time_of is ≡ Some t

-- of those below n that have a time this one is the first of the least
pub record IsSoonest {X : Type 0} (time_of : X → Option ℕ) (xs : List X) (n : ℕ) (best : Timer) : Type 0 where
  pub timed : IsTimed time_of xs best.port best.at
  pub below : best.port < n
  pub least : (p t : ℕ) → p < n → IsTimed time_of xs p t → best.at ≤ t
  pub first : (p t : ℕ) → p < best.port → IsTimed time_of xs p t → best.at < t

-- none of those below n has a time
abbrev pub AreUntimed : {X : Type 0} → (X → Option ℕ) → List X → ℕ → Type 0
AreUntimed {X} time_of xs n = (p t : ℕ) → p < n → IsTimed time_of xs p t → ⊥

abbrev pub Soonest : {X : Type 0} → (X → Option ℕ) → List X → ℕ → Option Timer → Type 0
Soonest time_of xs n best = MatchOption best (AreUntimed time_of xs n) (IsSoonest time_of xs n)

-- the sooner of two, of which the second stands later
abbrev pub sooner : Timer → Timer → Timer
sooner best other = if nat_lt other.at best.at then other else best

abbrev pub sooner_than : Option Timer → Timer → Timer
sooner_than None other = other
sooner_than (Some best) other = sooner best other

abbrev pub sooner_at : Option Timer → ℕ → Option ℕ → Option Timer
sooner_at best port None = best
sooner_at best port (Some t) = Some (sooner_than best (record { at = t; port = port }))
