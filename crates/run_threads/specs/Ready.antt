-- A crew for which all is made but the ends of the channels by proxy.
use Rattle.std.specs.Prelude.{ℕ, ◌≡◌, List, length, map, All}
use Rattle.cs_base.specs.declared.link.Link.{Link}
use Rattle.cs_base.specs.declared.port_kind.PortKind.{PortKind}
use Rattle.cs_base.specs.Wires.{OutSeen, InSeen}
use Rattle.crew_members.specs.Staffing.{AreUnused}
use Rattle.device_api.specs.Behaviour.{Behaviour}
use Rattle.proxy_crew.specs.Dialing.{kind_of}
use Rattle.proxy_crew.specs.Ending.{HasRoom}
use Rattle.slot_queue.specs.declared.ends.RxEnd.{RxEnd}
use Rattle.slot_queue.specs.declared.ends.TxEnd.{TxEnd}
use Rattle.slot_queue.specs.Ends.{Named}
use Rattle.run_threads.specs.declared.build.Ready.{Ready}
use Rattle.run_threads.specs.declared.crew.Crew.{Crew}
use Rattle.run_threads.specs.Building.{IsNewCrew}
use Rattle.run_threads.specs.Closing.{HasRoomFor}
use Rattle.run_threads.specs.CrewOf.{IsCrewOf}
use Rattle.run_threads.specs.Proxied.{near_queues, far_queues, near_names, far_names}
use Rattle.run_threads.specs.Routes.{routes_of}
use Rattle.run_threads.specs.Sharing.{AreBetween}
use Rattle.run_threads.specs.Whole.{IsBuilt}

-- all that a crew of a system needs, before its channels by proxy are dialed
pub record IsReady {V O I : Type 0} (b : Behaviour V) (settled : V → ℕ → Type 0) (starts : List V)
    (kinds : List (List PortKind)) (links : List Link) (end : ℕ) (queues : List Named)
    (ready : Ready V O I) : Type 0 where
  pub parts_are : IsCrewOf b settled starts links end (near_names links queues)
      (far_names links queues) ready.staffed.workers.items
  pub new_parts : IsNewCrew b starts links end (near_queues links queues)
      (far_queues links queues) ready.staffed.workers.items
  pub unused : AreUnused ready.staffed.workers.items
  pub between : AreBetween links queues ready.staffed.outs.items ready.staffed.ins.items
  pub near_kinds : map (λ (end : RxEnd). end.seat.kind) ready.staffed.outs.items
      ≡ map kind_of (routes_of kinds links)
  pub far_kinds : map (λ (end : TxEnd). end.seat.kind) ready.staffed.ins.items
      ≡ map kind_of (routes_of kinds links)
  pub routes_are : ready.routes.items ≡ routes_of kinds links
  pub room : HasRoomFor (length starts) links ready.closing
  pub room_between : HasRoom (length (routes_of kinds links)) ready.dismissed

-- some system's
pub record MayDial {V O I : Type 0} (b : Behaviour V) (settled : V → ℕ → Type 0)
    (ready : Ready V O I) : Type 0 where
  pub starts : List V
  pub kinds : List (List PortKind)
  pub links : List Link
  pub end : ℕ
  pub queues : List Named
  pub is : IsReady b settled starts kinds links end queues ready

-- whatever system it is for, this is a crew of it
abbrev pub Builds : {V O I : Type 0} → Behaviour V → (V → ℕ → Type 0) → (O → OutSeen)
    → (I → InSeen) → Ready V O I → Crew V O I → Type 0
Builds {V} b settled out wire ready crew = (starts : List V) (kinds : List (List PortKind))
    (links : List Link) (end : ℕ) (queues : List Named)
    → IsReady b settled starts kinds links end queues ready
    → IsBuilt b settled out wire starts kinds links end queues crew
