-- What stands while the parts of the components are made, and dealt to workers.
use Rattle.std.specs.Prelude.{ℕ, ◌≡◌, List, length, map, slice_get, Some}
use Rattle.cs_base.specs.declared.link.Link.{Link}
use Rattle.device_api.specs.Behaviour.{Behaviour}
use Rattle.mesh_core.specs.declared.way.Seat.{Seat}
use Rattle.mesh_core.specs.Start.{first_runner}
use Rattle.slot_queue.specs.Ends.{Named}
use Rattle.sync_rule.specs.declared.runner.Runner.{Runner}
use Rattle.worker_rounds.specs.Rounds.{Work}
use Rattle.run_threads.specs.declared.part.Part.{Part}
use Rattle.run_threads.specs.CrewOf.{part_at}
use Rattle.run_threads.specs.Dealing.{AreDealt, DealtMore}
use Rattle.run_threads.specs.Stock.{IsNewPart, froms_of, tos_of}

-- the part of a component was made, and dealt
pub record IsPlaced {V : Type 0} (nears fars : List Named) (froms tos : List Seat)
    (component ports : ℕ) (runner : Runner V) (old new : List (Work (Part V))) : Type 0 where
  pub part : Part V
  pub made : IsNewPart nears fars froms tos component ports runner part
  pub dealt : DealtMore component part old new

-- the part of a component whose device starts in this state, before its first turn
abbrev pub IsFirstPart : {V : Type 0} → Behaviour V → List Link → ℕ → List Named → List Named → ℕ
    → V → Part V → Type 0
IsFirstPart b links end nears fars c start part = IsNewPart nears fars (froms_of links)
    (tos_of links) c (length (b.ports start)) (first_runner b links end c start) part

-- no part of a crew has made a turn; these are the near and the far queues of its channels
pub record IsNewCrew {V : Type 0} (b : Behaviour V) (starts : List V) (links : List Link) (end : ℕ)
    (nears fars : List Named) (workers : List (Work (Part V))) : Type 0 where
  pub each : (c : ℕ) (start : V) (part : Part V) → slice_get starts c ≡ Some start
      → part_at workers c ≡ Some part → IsFirstPart b links end nears fars c start part

-- the parts of the first so many components were made, and dealt
pub record HaveParts {V : Type 0} (b : Behaviour V) (starts : List V) (links : List Link) (end : ℕ)
    (nears fars : List Named) (count : ℕ) (workers : List (Work (Part V))) : Type 0 where
  pub parts : List (Part V)
  pub as_many : length parts ≡ count
  pub dealt : AreDealt workers parts
  pub each : (c : ℕ) (start : V) (part : Part V) → slice_get starts c ≡ Some start
      → slice_get parts c ≡ Some part → IsFirstPart b links end nears fars c start part

-- the states in which the devices of new runners start
abbrev pub starts_of : {V : Type 0} → List (Runner V) → List V
starts_of runners = map (λ r. r.device) runners
