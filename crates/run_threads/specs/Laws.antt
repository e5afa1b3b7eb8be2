-- What holds of a crew.
use Rattle.std.specs.Prelude.{ℕ, ◌<◌, List, length, slice_index_or}
use Rattle.atomic_table.specs.Seated.{TableId}
use Rattle.cs_base.specs.declared.link.Link.{Link}
use Rattle.device_api.specs.Behaviour.{Behaviour}
use Rattle.device_api.specs.declared.counts.Count.{Count}
use Rattle.device_api.specs.declared.logs.Line.{Line}
use Rattle.slot_queue.specs.Ends.{Sender, Receiver}
use Rattle.sync_rule.specs.Next.{HasEnded}
use Rattle.worker_rounds.specs.declared.mesh_bad.MeshBad.{MeshBad}
use Rattle.worker_rounds.specs.Crew.{AreSound, AllWorked, AllEnded, IsFirstKept}
use Rattle.worker_rounds.specs.Rounds.{Work}
use Rattle.crew_members.specs.Faring.{AllFared, OneFailed}
use Rattle.run_threads.specs.declared.part.Part.{Part}
use Rattle.run_threads.specs.Parts.{PartFits, PartDid, PartFailed}
use Rattle.run_threads.specs.CrewOf.{IsCrewOf}
use Rattle.run_threads.specs.Faults.{LeavesIntroductions, TellsCause}
use Rattle.run_threads.specs.Seating.{IsSeated, StaysSeated}
use Rattle.run_threads.specs.Leaving.{IsLeft, AreDelivered, LeavesGlobalRun}

-- what rounds did that met no fault
abbrev pub AllWent : {V : Type 0} → Behaviour V → (V → ℕ → Type 0) → List (Work (Part V))
    → List (Work (Part V)) → Type 0
AllWent b settled old new = AllWorked (PartDid b settled) PartFailed (PartFits b settled) old new

-- the components of all parts have ended
abbrev pub HaveEnded : {V : Type 0} → Behaviour V → List (Work (Part V)) → Type 0
HaveEnded {V} b workers = AllEnded (λ (part : Part V). HasEnded b part.driver.runner) workers

-- whatever system a crew is of
abbrev pub StaysCrew : {V : Type 0} → Behaviour V → (V → ℕ → Type 0) → List (Work (Part V))
    → List (Work (Part V)) → Type 0
StaysCrew {V} b settled old new = (starts : List V) (links : List Link) (end : ℕ)
    (near far : List TableId) → IsCrewOf b settled starts links end near far old
    → IsCrewOf b settled starts links end near far new

abbrev pub RoundsKeepIt : {V : Type 0} → Behaviour V → (V → ℕ → Type 0) → Type 0
RoundsKeepIt {V} b settled = (old new : List (Work (Part V))) → AllWent b settled old new
    → AreSound (PartFits b settled) new → StaysCrew b settled old new

-- what became of the parts in rounds, of which one may have met a fault, or that another member met
abbrev pub AllCame : {V : Type 0} → Behaviour V → (V → ℕ → Type 0) → List (Work (Part V))
    → List (Work (Part V)) → Type 0
AllCame b settled old new = AllFared (PartDid b settled) PartFailed old new

-- of this the parts stay seated, send introductions first, and tell the cause of a fault that one met
pub record ComingLeaves {V : Type 0} (b : Behaviour V) (settled : V → ℕ → Type 0)
    (old new : List (Work (Part V))) : Type 0 where
  pub seated : StaysSeated old new
  pub introduced : LeavesIntroductions b settled old new
  pub cause : (w : ℕ) (fault : MeshBad) → w < length old
      → ((d : Work (Part V)) → OneFailed (PartDid b settled) PartFailed
      (slice_index_or old w d).members (slice_index_or new w d).members fault)
      → TellsCause b settled old new fault

abbrev pub WhateverComes : {V : Type 0} → Behaviour V → (V → ℕ → Type 0) → Type 0
WhateverComes {V} b settled = (old new : List (Work (Part V))) → AllCame b settled old new
    → ComingLeaves b settled old new

-- what a crew leaves whose components have ended and whose channels have delivered
abbrev pub LeavesRun : {V : Type 0} → Behaviour V → (V → ℕ → Type 0) → Type 0
LeavesRun {V} b settled = (starts : List V) (links : List Link) (end : ℕ) (near far : List TableId)
    (workers : List (Work (Part V))) → IsCrewOf b settled starts links end near far workers
    → HaveEnded b workers → (logs : List (List Line)) (counts : List Count)
    (senders : List Sender) (receivers : List Receiver)
    → IsLeft (length starts) links workers logs counts senders receivers
    → AreDelivered links senders receivers
    → LeavesGlobalRun b starts links end logs counts senders receivers

-- a crew's parts are seated for its system
abbrev pub AreSeated : {V : Type 0} → Behaviour V → (V → ℕ → Type 0) → Type 0
AreSeated {V} b settled = (starts : List V) (links : List Link) (end : ℕ) (near far : List TableId)
    (workers : List (Work (Part V))) → IsCrewOf b settled starts links end near far workers
    → IsSeated (length starts) links near far workers

-- what rounds leave on the channels, and the cause of a fault that they met
abbrev pub RoundsIntroduce : {V : Type 0} → Behaviour V → (V → ℕ → Type 0) → Type 0
RoundsIntroduce {V} b settled = (old new : List (Work (Part V))) → AllWent b settled old new
    → LeavesIntroductions b settled old new

abbrev pub FaultsHaveCause : {V : Type 0} → Behaviour V → (V → ℕ → Type 0) → Type 0
FaultsHaveCause {V} b settled = (old new : List (Work (Part V))) → AllWent b settled old new
    → (fault : MeshBad) → IsFirstKept new (length new) fault → TellsCause b settled old new fault
