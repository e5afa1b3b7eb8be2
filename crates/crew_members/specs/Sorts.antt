-- The members of one sort among those of workers, and what rounds of all are for them.
use Rattle.std.specs.Prelude.{ℕ, ◌≡◌, ◌<◌, List, length, map, slice_index_or, Option, Some}
use Rattle.std.specs.List.{filter_map}
use Rattle.worker_rounds.specs.declared.mesh_bad.MeshBad.{MeshBad}
use Rattle.worker_rounds.specs.Crew.{AreSound, AllWorked, AllEnded}
use Rattle.worker_rounds.specs.Rounds.{Work}
use Rattle.crew_members.specs.declared.hand.Hand.{Hand}
use Rattle.crew_members.specs.Faring.{AllFared, OneFailed}
use Rattle.crew_members.specs.Hands.{HandDid, HandFailed, component_of, sending_of, receiving_of}

-- a worker with its members of one sort alone, in their order
abbrev pub of_sort : {H M : Type 0} → (H → Option M) → Work H → Work M
of_sort sort worker = record {
  number = worker.number;
  members = filter_map sort worker.members;
  fault = worker.fault;
}

abbrev pub among : {H M : Type 0} → (H → Option M) → List (Work H) → List (Work M)
among sort workers = map (of_sort sort) workers

-- what holds of the members of one sort where all members made rounds
pub record RoundsAre {H M : Type 0} (sort : H → Option M) (does : M → M → Type 0)
    (fails : M → MeshBad → M → Type 0) (fits ended : M → Type 0) (all_does : H → H → Type 0)
    (all_fails : H → MeshBad → H → Type 0) (all_fit all_ended : H → Type 0) : Type 0 where
  -- where all are fit, so are those of the sort
  pub sound : (workers : List (Work H)) → AreSound all_fit workers
      → AreSound fits (among sort workers)
  -- where all have ended, so have they
  pub ended_too : (workers : List (Work H)) → AllEnded all_ended workers
      → AllEnded ended (among sort workers)
  -- rounds that met no fault were rounds of theirs
  pub worked : (old new : List (Work H)) → AllWorked all_does all_fails all_fit old new
      → AreSound all_fit new → AllWorked does fails fits (among sort old) (among sort new)
  -- after a fault too they made turns, of which the last may have failed
  pub fared : (old new : List (Work H)) → AllWorked all_does all_fails all_fit old new
      → AllFared does fails (among sort old) (among sort new)

-- a fault that a worker keeps was met by a member of one of the three sorts
pub data MetBy {C O I : Type 0} (c : C → C → Type 0) (o : O → O → Type 0) (i : I → I → Type 0)
    (fc : C → MeshBad → C → Type 0) (fo : O → MeshBad → O → Type 0) (fi : I → MeshBad → I → Type 0)
    (old new : List (Hand C O I)) (fault : MeshBad) : Type 0 where
  by_component : OneFailed c fc (filter_map component_of old) (filter_map component_of new) fault
      → MetBy c o i fc fo fi old new fault
  by_sending : OneFailed o fo (filter_map sending_of old) (filter_map sending_of new) fault
      → MetBy c o i fc fo fi old new fault
  by_receiving : OneFailed i fi (filter_map receiving_of old) (filter_map receiving_of new) fault
      → MetBy c o i fc fo fi old new fault

-- so it is with the fault of each worker
pub record FaultsAreMet {C O I : Type 0} (c : C → C → Type 0) (o : O → O → Type 0)
    (i : I → I → Type 0) (fc : C → MeshBad → C → Type 0) (fo : O → MeshBad → O → Type 0)
    (fi : I → MeshBad → I → Type 0) (old new : List (Work (Hand C O I))) : Type 0 where
  pub each : (w : ℕ) (d : Work (Hand C O I)) (fault : MeshBad) → w < length old
      → (slice_index_or new w d).fault ≡ Some fault
      → MetBy c o i fc fo fi (slice_index_or old w d).members (slice_index_or new w d).members fault

abbrev pub RoundsTellWho : {C O I : Type 0} → (C → C → Type 0) → (O → O → Type 0)
    → (I → I → Type 0) → (C → MeshBad → C → Type 0) → (O → MeshBad → O → Type 0)
    → (I → MeshBad → I → Type 0) → (Hand C O I → Type 0) → Type 0
RoundsTellWho {C} {O} {I} c o i fc fo fi fits = (old new : List (Work (Hand C O I)))
    → AllWorked (HandDid c o i) (HandFailed fc fo fi) fits old new
    → FaultsAreMet c o i fc fo fi old new
