-- Workers with components, to which the ends of channels come.
use Rattle.std.specs.Prelude.{ℕ, ◌≡◌, ◌++◌, ◌∷◌, [], List, map, slice_get, slice_set, Option, Some, None}
use Rattle.worker_rounds.specs.Rounds.{Work}
use Rattle.crew_members.specs.declared.hand.Hand.{Hand}
use Rattle.crew_members.specs.declared.hand.Hand.TheVariants.{Component}

-- workers that have made no round, each with its place as its number
pub record AreUnused {M : Type 0} (workers : List (Work M)) : Type 0 where
  pub number : (w : ℕ) (worker : Work M) → slice_get workers w ≡ Some worker → worker.number ≡ w
  pub no_fault : (w : ℕ) (worker : Work M) → slice_get workers w ≡ Some worker
      → worker.fault ≡ None

-- a worker with components as one with members of three sorts
abbrev pub as_hands : {C O I : Type 0} → Work C → Work (Hand C O I)
as_hands worker = record {
  number = worker.number;
  members = map Component worker.members;
  fault = worker.fault;
}

-- one member more on the worker at this place, behind the others
pub record OneMore {M : Type 0} (place : ℕ) (member : M) (old new : List (Work M)) : Type 0 where
  pub before : Work M
  pub there : slice_get old place ≡ Some before
  pub is : new ≡ slice_set old place (record {
    number = before.number;
    members = before.members ++ member ∷ [];
    fault = before.fault;
  })

-- a member came, if there is one
abbrev pub Joined : {M : Type 0} → ℕ → Option M → List (Work M) → List (Work M) → Type 0
Joined place None old new = new ≡ old
Joined place (Some member) old new = OneMore place member old new
