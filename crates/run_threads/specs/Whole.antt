-- A crew whole: the components and the ends of the channels by proxy on their workers, from its making to
-- what its rounds leave.
use Rattle.std.specs.Prelude.{ℕ, ◌≡◌, ◌⊎◌, List, [], length, map, slice_get, Some, All, Result, Ok, Err, sum}
use Rattle.std.specs.List.{filter_map}
use Rattle.atomic_table.specs.Seated.{TableId}
use Rattle.cs_base.specs.declared.link.Link.{Link}
use Rattle.cs_base.specs.declared.port_kind.PortKind.{PortKind}
use Rattle.cs_base.specs.Wires.{OutSeen, InSeen}
use Rattle.crew_members.specs.Staffing.{as_hands}
use Rattle.device_api.specs.Behaviour.{Behaviour}
use Rattle.lane_kernels.specs.declared.differ.Differ.{Differ}
use Rattle.proxy_crew.specs.declared.proxied.Proxied.{Proxied}
use Rattle.proxy_crew.specs.Dialing.{AreNewEnds, route_of, near_end_of, far_end_of}
use Rattle.proxy_crew.specs.Ending.{end_of, near_side, far_side, HasRoom, AreLeft}
use Rattle.proxy_crew.specs.Engaging.{AreEngaged}
use Rattle.proxy_members.specs.Differing.{AllAgree, AgreeBelow, IsFirstToDiffer}
use Rattle.proxy_members.specs.Inward.{InHolds, InSays}
use Rattle.proxy_members.specs.Outward.{OutFits, OutSays, IsBegun}
use Rattle.slot_queue.specs.Ends.{Named, Sender, Receiver}
use Rattle.worker_rounds.specs.declared.mesh_bad.MeshBad.{MeshBad}
use Rattle.worker_rounds.specs.declared.mesh_bad.MeshBad.TheVariants.{Differs}
use Rattle.worker_rounds.specs.Crew.{NoneKept, IsFirstKept}
use Rattle.worker_rounds.specs.Rounds.{Work}
use Rattle.run_threads.specs.declared.crew.Crew.{Crew}
use Rattle.run_threads.specs.declared.part.Part.{Part}
use Rattle.run_threads.specs.Building.{IsNewCrew}
use Rattle.run_threads.specs.Closing.{HasRoomFor}
use Rattle.run_threads.specs.CrewOf.{IsCrewOf}
use Rattle.run_threads.specs.Faults.{AreIntroduced, IsCause}
use Rattle.run_threads.specs.Laws.{HaveEnded}
use Rattle.run_threads.specs.Proxied.{proxied, near_queues, far_queues, near_names, far_names}
use Rattle.run_threads.specs.Routes.{routes_of}
use Rattle.run_threads.specs.Seating.{IsSeated}
use Rattle.run_threads.specs.Sharing.{AreBetween}

-- a crew of a system before its first round
pub record IsBuilt {V O I : Type 0} (b : Behaviour V) (settled : V → ℕ → Type 0)
    (out : O → OutSeen) (wire : I → InSeen) (starts : List V) (kinds : List (List PortKind))
    (links : List Link) (end : ℕ) (queues : List Named) (crew : Crew V O I) : Type 0 where
  pub parts : List (Work (Part V))
  pub ends : List (Proxied O I)
  pub engaged : AreEngaged parts ends crew.workers.items
  pub parts_are : IsCrewOf b settled starts links end (near_names links queues)
      (far_names links queues) parts
  pub new_parts : IsNewCrew b starts links end (near_queues links queues)
      (far_queues links queues) parts
  pub new_ends : All (AreNewEnds out wire) ends
  pub routes : map route_of ends ≡ routes_of kinds links
  -- the ends are those of the near and the far queues of the channels by proxy
  pub between : AreBetween links queues (map near_end_of ends) (map far_end_of ends)
  pub near_kinds : All (λ (one : Proxied O I). one.sending.near.seat.kind ≡ one.route.kind) ends
  pub far_kinds : All (λ (one : Proxied O I). one.receiving.far.seat.kind ≡ one.route.kind) ends
  pub to_dismiss : crew.routes ≡ routes_of kinds links
  pub room : HasRoomFor (length starts) links crew.closing
  pub room_between : HasRoom (length (routes_of kinds links)) crew.dismissed

-- the queues at which channels by proxy have ends, by their numbers: the near and the far one
pub record AreEndsAt {O I : Type 0} (links : List Link) (queues : List Named)
    (ends : List (Proxied O I)) : Type 0 where
  pub near : map (λ (one : Proxied O I). one.sending.near.seat.queue) ends
      ≡ filter_map (slice_get (near_names links queues)) (proxied links)
  pub far : map (λ (one : Proxied O I). one.receiving.far.seat.queue) ends
      ≡ filter_map (slice_get (far_names links queues)) (proxied links)

-- what always holds of both ends of a channel: what was taken out of the near queue is nothing or a stream,
-- and its frames are the bytes that were to go; what was put into the far queue is the beginning of the
-- messages of the bytes that came; and both are what the wire tells
pub record EndsHold {O I : Type 0} (out : O → OutSeen) (wire : I → InSeen)
    (one : Proxied O I) : Type 0 where
  pub sending : OutFits out one.sending
  pub stream : IsBegun one.sending.near.seat.kind one.sending.near.seat.received
  pub receiving : InHolds wire one.receiving
  pub sending_channel : one.sending.channel ≡ one.route.channel
  pub receiving_channel : one.receiving.channel ≡ one.route.channel
  pub near_kind : one.sending.near.seat.kind ≡ one.route.kind
  pub far_kind : one.receiving.far.seat.kind ≡ one.route.kind

-- a crew whose ends are off its workers: these are its components on their workers, and these were the ends
pub record IsDismissed {V O I : Type 0} (components : ℕ) (links : List Link) (queues : List Named)
    (parts : List (Work (Part V))) (ends : List (Proxied O I)) (crew : Crew V O I) : Type 0 where
  pub workers_are : crew.workers.items ≡ map as_hands parts
  pub seated : IsSeated components links (near_names links queues) (far_names links queues) parts
  pub ends_at : AreEndsAt links queues ends
  pub left : AreLeft ends crew.dismissed
  pub room : HasRoomFor components links crew.closing

-- the cause of a fault: the component or the end that met it, or that what came on a channel differs from
-- what was sent, where none met any
pub data IsWholeCause {V O I : Type 0} (b : Behaviour V) (out : O → OutSeen) (wire : I → InSeen)
    (starts : List V) (links : List Link) (parts : List (Work (Part V)))
    (ends : List (Proxied O I)) (fault : MeshBad) : Type 0 where
  by_component : IsFirstKept parts (length parts) fault → IsCause b starts links parts fault
      → IsWholeCause b out wire starts links parts ends fault
  by_sending : (k : ℕ) (one : Proxied O I) → IsFirstKept parts (length parts) fault
      → slice_get ends k ≡ Some one → OutSays out one.sending fault
      → IsWholeCause b out wire starts links parts ends fault
  by_receiving : (k : ℕ) (one : Proxied O I) → IsFirstKept parts (length parts) fault
      → slice_get ends k ≡ Some one → InSays wire one.receiving fault
      → IsWholeCause b out wire starts links parts ends fault
  by_difference : (channel : ℕ) (differ : Differ) → NoneKept parts (length parts)
      → fault ≡ Differs channel differ → IsFirstToDiffer (map end_of ends) channel differ
      → AgreeBelow (map end_of ends) channel
      → IsWholeCause b out wire starts links parts ends fault

-- a crew of a system after its rounds, which ended so
pub record HasRun {V O I T : Type 0} (b : Behaviour V) (settled : V → ℕ → Type 0)
    (out : O → OutSeen) (wire : I → InSeen) (starts : List V) (kinds : List (List PortKind))
    (links : List Link) (end : ℕ) (queues : List Named) (crew : Crew V O I)
    (ended : Result T MeshBad) : Type 0 where
  pub parts : List (Work (Part V))
  pub ends : List (Proxied O I)
  pub dismissed : IsDismissed (length starts) links queues parts ends crew
  pub introduced : AreIntroduced b starts links parts
  pub routes : map route_of ends ≡ routes_of kinds links
  pub hold : All (EndsHold out wire) ends
  -- where it ended without a fault, so have all components, and all channels by proxy agree
  pub parts_are : (done : T) → ended ≡ Ok done → IsCrewOf b settled starts links end
      (near_names links queues) (far_names links queues) parts
  pub have_ended : (done : T) → ended ≡ Ok done → HaveEnded b parts
  pub agree : (done : T) → ended ≡ Ok done → AllAgree (map end_of ends)
  pub cause : (fault : MeshBad) → ended ≡ Err fault
      → IsWholeCause b out wire starts links parts ends fault

-- some system's crew, before its rounds
pub record MayRun {V O I : Type 0} (b : Behaviour V) (settled : V → ℕ → Type 0)
    (out : O → OutSeen) (wire : I → InSeen) (crew : Crew V O I) : Type 0 where
  pub starts : List V
  pub kinds : List (List PortKind)
  pub links : List Link
  pub end : ℕ
  pub queues : List Named
  pub built : IsBuilt b settled out wire starts kinds links end queues crew

-- whatever system's crew it is
abbrev pub Runs : {V O I T : Type 0} → Behaviour V → (V → ℕ → Type 0) → (O → OutSeen)
    → (I → InSeen) → Crew V O I → Crew V O I → Result T MeshBad → Type 0
Runs {V} b settled out wire old new ended = (starts : List V) (kinds : List (List PortKind))
    (links : List Link) (end : ℕ) (queues : List Named)
    → IsBuilt b settled out wire starts kinds links end queues old
    → HasRun b settled out wire starts kinds links end queues new ended
