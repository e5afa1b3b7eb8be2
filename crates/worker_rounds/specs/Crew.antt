-- All workers of a run.
use Rattle.std.specs.Prelude.{ℕ, ◌≡◌, ◌+◌, ◌≤◌, ◌<◌, ◌^◌, List, length, Option, Some, None, slice_index_or, All, MatchOption, if◌then◌else◌, nat_le}
use Rattle.worker_rounds.specs.declared.mesh_bad.MeshBad.{MeshBad}
use Rattle.worker_rounds.specs.declared.mesh_bad.MeshBad.TheVariants.{Lost, Peer, Differs, NoMemory}
use Rattle.worker_rounds.specs.Passes.{HaveEnded}
use Rattle.worker_rounds.specs.Rounds.{Work, Worked, IsSound}

-- each worker may make a round
abbrev pub AreSound : {M : Type 0} → (M → Type 0) → List (Work M) → Type 0
AreSound fits workers = All (IsSound fits) workers

-- what each worker did
pub record AllWorked {M : Type 0} (does : M → M → Type 0) (fails : M → MeshBad → M → Type 0)
    (fits : M → Type 0) (old new : List (Work M)) : Type 0 where
  pub as_many : length new ≡ length old
  pub each : (k : ℕ) (d : Work M) → k < length old
      → Worked does fails fits (slice_index_or old k d) (slice_index_or new k d)

-- the members of all workers have ended
pub record AllEnded {M : Type 0} (ended : M → Type 0) (workers : List (Work M)) : Type 0 where
  pub each : (k : ℕ) (d : Work M) → k < length workers
      → HaveEnded ended (slice_index_or workers k d).members

-- of several faults a lost channel comes first, then one with a bad peer, then one that differs, and
-- want of memory last; of two of one sort that of the lesser channel
abbrev pub order_of : MeshBad → ℕ
order_of (Lost channel) = channel
order_of (Peer channel offset reason) = 2 ^ 32 + channel
order_of (Differs channel differ) = 2 ^ 33 + channel
order_of NoMemory = 2 ^ 34

-- the sooner of two faults in that order
abbrev pub sooner_of : Option MeshBad → Option MeshBad → Option MeshBad
sooner_of None other = other
sooner_of (Some fault) None = Some fault
sooner_of (Some fault) (Some other) = if nat_le (order_of fault)
    (order_of other) then Some fault else Some other

-- of the first so many workers none keeps a fault
pub record NoneKept {M : Type 0} (workers : List (Work M)) (count : ℕ) : Type 0 where
  pub none : (k : ℕ) (d : Work M) → k < count → (slice_index_or workers k d).fault ≡ None

-- of the first so many workers one keeps this fault, and none keeps one that comes before it
pub record IsFirstKept {M : Type 0} (workers : List (Work M)) (count : ℕ)
    (fault : MeshBad) : Type 0 where
  pub place : ℕ
  pub within : place < count
  pub kept : (d : Work M) → (slice_index_or workers place d).fault ≡ Some fault
  pub first : (k : ℕ) (d : Work M) (other : MeshBad) → k < count
      → (slice_index_or workers k d).fault ≡ Some other → order_of fault ≤ order_of other

abbrev pub FirstKept : {M : Type 0} → List (Work M) → ℕ → Option MeshBad → Type 0
FirstKept workers count fault = MatchOption fault (NoneKept workers count)
    (IsFirstKept workers count)
