-- Members that are dealt to workers in turn.
use Rattle.std.specs.Prelude.{ℕ, ◌≡◌, ◌+◌, ◌*◌, ◌<◌, ◌++◌, ◌∷◌, [], List, length, map, reverse, slice_get, Some, None}
use Rattle.crew_members.specs.declared.hand.Hand.{Hand}
use Rattle.crew_members.specs.declared.hand.Hand.TheVariants.{Component}
use Rattle.worker_rounds.specs.Rounds.{Work}

-- member k of worker w of n workers is number w + k * n of all members, and no worker met a fault
pub record AreDealt {M : Type 0} (workers : List (Work M)) (all : List M) : Type 0 where
  pub some_worker : 0 < length workers
  pub dealt : (w k : ℕ) (worker : Work M) → slice_get workers w ≡ Some worker
      → slice_get worker.members k ≡ slice_get all (w + k * length workers)
  pub no_fault : (w : ℕ) (worker : Work M) → slice_get workers w ≡ Some worker
      → worker.fault ≡ None

-- so many workers without members or faults, each with its place as its number
pub record AreIdle {M : Type 0} (count : ℕ) (workers : List (Work M)) : Type 0 where
  pub as_many : length workers ≡ count
  pub each : (w : ℕ) (worker : Work M) → slice_get workers w ≡ Some worker
      → worker ≡ record { number = w; members = []; fault = None }

-- each worker has its place as its number
pub record AreNumbered {M : Type 0} (workers : List (Work M)) : Type 0 where
  pub each : (w : ℕ) (worker : Work M) → slice_get workers w ≡ Some worker → worker.number ≡ w

-- one more was dealt, whichever were before
abbrev pub DealtMore : {M : Type 0} → ℕ → M → List (Work M) → List (Work M) → Type 0
DealtMore {M} number member old new = (all : List M) → length all ≡ number → AreDealt old all
    → AreDealt new (all ++ member ∷ [])

-- the same, whatever faults the workers keep
pub record AreSpread {M : Type 0} (workers : List (Work M)) (all : List M) : Type 0 where
  pub some_worker : 0 < length workers
  pub dealt : (w k : ℕ) (worker : Work M) → slice_get workers w ≡ Some worker
      → slice_get worker.members k ≡ slice_get all (w + k * length workers)

-- the last member of a worker, if it is a component, went to the end of a list of them
abbrev pub LastPartMoved : {C O I : Type 0} → List (Hand C O I) → List C → List (Hand C O I)
    → List C → Type 0
LastPartMoved {C} {O} {I} from to from' to' = (front : List (Hand C O I)) (last : C)
    → from ≡ front ++ Component last ∷ [] → (from' ≡ front) × (to' ≡ to ++ last ∷ [])

-- so many components that were dealt to workers were taken back, from the last one down
abbrev pub PartsCollected : {C O I : Type 0} → ℕ → List (Work (Hand C O I)) → List C → Type 0
PartsCollected {C} count workers parts = (all : List C) → length all ≡ count
    → AreSpread workers (map Component all) → parts ≡ reverse all
