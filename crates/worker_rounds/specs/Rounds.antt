-- Rounds of a worker: passes, until nothing has moved for long, or for so many passes, or until a
-- fault.
use Rattle.std.specs.Prelude.{ℕ, ◌≡◌, ◌≤◌, Bool, true, false, List, Option, Some, None}
use Rattle.worker_rounds.specs.declared.mesh_bad.MeshBad.{MeshBad}
use Rattle.worker_rounds.specs.declared.worker.RoundEnd.{RoundEnd}
use Rattle.worker_rounds.specs.declared.worker.RoundEnd.TheVariants.{Quiet, Spent, Faulted}
use Rattle.worker_rounds.specs.Passes.{EachWent, HaveCounted, AllFit, AreStill, PassFailed}

-- a worker: its number, its members, and the first fault that a turn of them met
pub record Work (M : Type 0) : Type 0 where
  pub number : ℕ
  pub members : List M
  pub fault : Option MeshBad

-- so many passes were made, at least 64, and each member is still; or 4,096 passes were made
pub data Passed {M : Type 0} (does : M → M → Type 0) (turns still : M → ℕ)
    (old new : List M) : Bool → Type 0 where
  all_still : (n : ℕ) → 64 ≤ n → n ≤ 4096 → EachWent does n old new → HaveCounted turns n old new
      → AreStill still new → Passed does turns still old new true
  all_made : EachWent does 4096 old new → HaveCounted turns 4096 old new
      → Passed does turns still old new false

-- after some passes one failed
pub record Failed {M : Type 0} (does : M → M → Type 0) (fails : M → MeshBad → M → Type 0)
    (old new : List M) (fault : MeshBad) : Type 0 where
  pub passes : ℕ
  pub mid : List M
  pub before : EachWent does passes old mid
  pub last : PassFailed does fails mid new fault

-- how a round ended, and what it kept
pub data Rounded {M : Type 0} (does : M → M → Type 0) (fails : M → MeshBad → M → Type 0)
    (turns still : M → ℕ) (old new : Work M) : RoundEnd → Type 0 where
  was_quiet : new.fault ≡ None → Passed does turns still old.members new.members true
      → Rounded does fails turns still old new Quiet
  was_spent : new.fault ≡ None → Passed does turns still old.members new.members false
      → Rounded does fails turns still old new Spent
  was_faulted : (fault : MeshBad) → new.fault ≡ Some fault
      → Failed does fails old.members new.members fault
      → Rounded does fails turns still old new Faulted

-- a worker that may make a round: its members are fit, and it keeps no fault
pub record IsSound {M : Type 0} (fits : M → Type 0) (worker : Work M) : Type 0 where
  pub fit : AllFit fits worker.members
  pub no_fault : worker.fault ≡ None

-- what some rounds did: each member made as many turns as the others; or one of them met a fault,
-- which is kept
pub data Went {M : Type 0} (does : M → M → Type 0) (fails : M → MeshBad → M → Type 0)
    (old new : Work M) : Type 0 where
  went_well : (n : ℕ) → EachWent does n old.members new.members → new.fault ≡ None
      → Went does fails old new
  went_wrong : (fault : MeshBad) → Failed does fails old.members new.members fault
      → new.fault ≡ Some fault → Went does fails old new

-- a worker after some rounds, which may make another if it keeps no fault
pub record Worked {M : Type 0} (does : M → M → Type 0) (fails : M → MeshBad → M → Type 0)
    (fits : M → Type 0) (old new : Work M) : Type 0 where
  pub number : new.number ≡ old.number
  pub went : Went does fails old new
  pub sound : new.fault ≡ None → IsSound fits new
