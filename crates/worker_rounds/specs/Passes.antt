-- Turns of members: each makes one in a pass.
use Rattle.std.specs.Prelude.{ℕ, ◌≡◌, ◌+◌, ◌<◌, ◌≤◌, ◌%◌, ◌^◌, List, length, slice_index_or, slice_set}
use Rattle.worker_rounds.specs.declared.mesh_bad.MeshBad.{MeshBad}

-- a member made so many turns in a row
pub data Went {M : Type 0} (does : M → M → Type 0) (a : M) : ℕ → M → Type 0 where
  stood : Went does a 0 a
  turned : (n : ℕ) (b c : M) → Went does a n b → does b c → Went does a (n + 1) c

-- each member is fit for a turn
pub record AllFit {M : Type 0} (fits : M → Type 0) (members : List M) : Type 0 where
  pub each : (k : ℕ) (d : M) → k < length members → fits (slice_index_or members k d)

-- each member made so many turns
pub record EachWent {M : Type 0} (does : M → M → Type 0) (n : ℕ) (old new : List M) : Type 0 where
  pub as_many : length new ≡ length old
  pub each : (k : ℕ) (d : M) → k < length old
      → Went does (slice_index_or old k d) n (slice_index_or new k d)

-- each member counts so many turns more
pub record HaveCounted {M : Type 0} (turns : M → ℕ) (n : ℕ) (old new : List M) : Type 0 where
  pub each : (k : ℕ) (d : M) → k < length old
      → turns (slice_index_or new k d) ≡ (turns (slice_index_or old k d) + n) % 2 ^ 64

-- the latest 64 turns of each member, or more, moved nothing
pub record AreStill {M : Type 0} (still : M → ℕ) (members : List M) : Type 0 where
  pub each : (k : ℕ) (d : M) → k < length members → still (slice_index_or members k d) ≡ 64

-- each member has ended
pub record HaveEnded {M : Type 0} (ended : M → Type 0) (members : List M) : Type 0 where
  pub each : (k : ℕ) (d : M) → k < length members → ended (slice_index_or members k d)

-- of a pass, the members below k have made their turn
pub record PassSoFar {M : Type 0} (does : M → M → Type 0) (k : ℕ) (old new : List M) : Type 0 where
  pub as_many : length new ≡ length old
  pub done : (i : ℕ) (d : M) → i < k → i < length old
      → does (slice_index_or old i d) (slice_index_or new i d)
  pub same : (i : ℕ) (d : M) → k ≤ i → i < length old
      → slice_index_or new i d ≡ slice_index_or old i d

-- a pass ended at a member whose turn met a fault
pub record PassFailed {M : Type 0} (does : M → M → Type 0) (fails : M → MeshBad → M → Type 0)
    (old new : List M) (fault : MeshBad) : Type 0 where
  pub place : ℕ
  pub mid : List M
  pub so_far : PassSoFar does place old mid
  pub within : place < length old
  pub before : M
  pub there : (d : M) → slice_index_or mid place d ≡ before
  pub after : M
  pub failed : fails before fault after
  pub left : new ≡ slice_set mid place after
