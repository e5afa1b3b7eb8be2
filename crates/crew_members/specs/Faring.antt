-- What becomes of members in rounds, of which one may meet a fault.
use Rattle.std.specs.Prelude.{ℕ, ◌≡◌, ◌<◌, List, length, slice_get, slice_index_or, Some}
use Rattle.worker_rounds.specs.declared.mesh_bad.MeshBad.{MeshBad}
use Rattle.worker_rounds.specs.Passes.{Went}
use Rattle.worker_rounds.specs.Rounds.{Work}

-- a member made some turns, after which one may have met a fault
pub data Fared {M : Type 0} (does : M → M → Type 0) (fails : M → MeshBad → M → Type 0)
    (old new : M) : Type 0 where
  fared_well : (n : ℕ) → Went does old n new → Fared does fails old new
  fared_badly : (n : ℕ) (mid : M) (fault : MeshBad) → Went does old n mid → fails mid fault new
      → Fared does fails old new

-- each member did
pub record EachFared {M : Type 0} (does : M → M → Type 0) (fails : M → MeshBad → M → Type 0)
    (old new : List M) : Type 0 where
  pub as_many : length new ≡ length old
  pub each : (k : ℕ) (d : M) → k < length old
      → Fared does fails (slice_index_or old k d) (slice_index_or new k d)

-- a turn of one of these members met this fault, after some that met none
pub record OneFailed {M : Type 0} (does : M → M → Type 0) (fails : M → MeshBad → M → Type 0)
    (old new : List M) (fault : MeshBad) : Type 0 where
  pub place : ℕ
  pub before : M
  pub at_before : slice_get old place ≡ Some before
  pub turns : ℕ
  pub mid : M
  pub went : Went does before turns mid
  pub after : M
  pub at_after : slice_get new place ≡ Some after
  pub failed : fails mid fault after

-- the members of all workers fared
pub record AllFared {M : Type 0} (does : M → M → Type 0) (fails : M → MeshBad → M → Type 0)
    (old new : List (Work M)) : Type 0 where
  pub as_many : length new ≡ length old
  pub number : (w : ℕ) (d : Work M) → w < length old
      → (slice_index_or new w d).number ≡ (slice_index_or old w d).number
  pub each : (w : ℕ) (d : Work M) → w < length old
      → EachFared does fails (slice_index_or old w d).members (slice_index_or new w d).members
