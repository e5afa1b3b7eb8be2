-- A run under way: how the simulator's queues and agenda stand for the world of the global run.
use Rattle.std.specs.Prelude.{ℕ, ◌≡◌, ◌+◌, ◌≤◌, ◌<◌, ◌⊎◌, ◌||◌, Bool, true, if◌then◌else◌, List, [], ◌∷◌, length, map, slice_get, Option, Some, IsSome, IfSome, All}
use Rattle.cs_base.specs.declared.link.Link.{Link}
use Rattle.cs_base.specs.declared.port_kind.PortKind.{PortKind}
use Rattle.cs_base.specs.Plan.{End, same_end, first_end, second_end, kind_at, IsPlan}
use Rattle.sb_message.specs.declared.message.Msg.{Msg}
use Rattle.sb_message.specs.Receivable.{MayReceive}
use Rattle.device_api.specs.declared.component.Component.{Component}
use Rattle.device_api.specs.Behaviour.{Behaviour, IsLawful}
use Rattle.device_api.specs.World.{Run, World, Network, waiting_at, slot, global_until}
use Rattle.moment_tree.specs.Dues.{IsFirst}
use Rattle.moment_tree.specs.Places.{clock}
use Rattle.global_model.specs.declared.routes.Route.{Route}
use Rattle.global_model.specs.Agenda.{has}
use Rattle.global_model.specs.Inboxes.{port_of}
use Rattle.global_model.specs.Routes.{route_from}
use Rattle.global_model.specs.Step.{network}
use Rattle.global_model.specs.Turn.{queue_at, from_time, Rises}

-- the world while the components below c have had their turn at t
abbrev pub world_at : {S : Type 0} → Network S → ℕ → ℕ → World S
world_at net t c = slot net t c (global_until net t)

-- the latency of the link at a port
abbrev pub touches : Link → End → Bool
touches link e = same_end (first_end link) e || same_end (second_end link) e

unfoldable pub latency_at : List Link → End → ℕ
latency_at [] e = 0
latency_at (link ∷ more) e = if touches link e then link.latency else latency_at more e

-- what waits at a port: the port may receive it, it arrives after at most the link's latency, and the agenda has its moment
pub record IsHere (links : List Link) (agenda : List (Option ℕ)) (ports : List PortKind) (e : End) (t : ℕ) (m : Msg) : Type 0 where
  pub may : MayReceive ports e.port m.body
  pub bounded : m.at ≤ t + latency_at links e
  pub covered : has m.at e.component agenda ≡ true

pub record IsBox (links : List Link) (agenda : List (Option ℕ)) (ports : List PortKind) (e : End) (t low : ℕ) (queue : List Msg) : Type 0 where
  pub rises : Rises low queue
  pub here : All (IsHere links agenda ports e t) queue

-- a component's events were before the next moment, and the agenda has the moment at which it is due
pub record IsAwake {S : Type 0} (b : Behaviour S) (settled : S → ℕ → Type 0) (t d : ℕ) (agenda : List (Option ℕ)) (component : Component S) : Type 0 where
  pub settled_then : settled component.device (t + 1)
  pub due_noted : IfSome (b.due component.device) (λ u. has u d agenda ≡ true)

-- a component is a run without what it has sent
abbrev pub component_of : {S : Type 0} → Run S → Component S
component_of run = record { device = run.state; log = run.log }

-- the components below c have had their turn at t
pub record IsUnderWay {S : Type 0} (b : Behaviour S) (settled : S → ℕ → Type 0) (end : ℕ) (kinds : List (List PortKind)) (links : List Link) (starts : List S) (routes : List (List (Option Route))) (t c : ℕ) (components : List (Component S)) (inboxes : List (List (List Msg))) (agenda : List (Option ℕ)) : Type 0 where
  pub lawful : IsLawful b settled
  pub plan : IsPlan end kinds links
  pub matches : map b.ports starts ≡ kinds
  pub routed : (e : End) → IsSome (kind_at kinds e) → port_of routes e ≡ Some (route_from links e)
  pub within : (t < end) ⊎ ((t ≡ end) × (c ≡ 0))
  pub in_range : c ≤ length starts
  pub components_are : components ≡ map component_of (world_at (network b starts links) t c).runs
  pub ports_same : map (λ (component : Component S). b.ports component.device) components ≡ kinds
  pub queues : (e : End) → IsSome (kind_at kinds e) → port_of inboxes e ≡ Some (from_time (clock t c e.component) (waiting_at e (world_at (network b starts links) t c).pending))
  pub boxes : (e : End) (ports : List PortKind) → slice_get kinds e.component ≡ Some ports → e.port < length ports → IsBox links agenda ports e t (clock t c e.component) (queue_at inboxes e)
  pub awake : (d : ℕ) (component : Component S) → slice_get components d ≡ Some component → IsAwake b settled t d agenda component
  pub roomy : length agenda ≡ length starts
  pub to_come : IsFirst t c agenda

-- devices that are joined by links, and how long they run
pub record System (S : Type 0) : Type 0 where
  pub end : ℕ
  pub kinds : List (List PortKind)
  pub links : List Link
  pub starts : List S

abbrev pub Stands : {S : Type 0} → Behaviour S → (S → ℕ → Type 0) → System S → List (List (Option Route)) → ℕ → ℕ → List (Component S) → List (List (List Msg)) → List (Option ℕ) → Type 0
Stands b settled system routes t c components inboxes agenda = IsUnderWay b settled system.end system.kinds system.links system.starts routes t c components inboxes agenda

-- a component that has logged nothing yet
abbrev pub fresh : {S : Type 0} → S → Component S
fresh device = record { device = device; log = [] }

-- the agenda has the moment at which each component is due
abbrev pub AreDuesNoted : {S : Type 0} → Behaviour S → List (Component S) → List (Option ℕ) → Type 0
AreDuesNoted {S} b components agenda = (d : ℕ) (component : Component S) → slice_get components d ≡ Some component → IfSome (b.due component.device) (λ u. has u d agenda ≡ true)

-- a run of some system stands at t, and may go on until a time
abbrev pub MayGoOn : {S : Type 0} → Behaviour S → (S → ℕ → Type 0) → List (List (Option Route)) → ℕ → ℕ → List (Component S) → List (List (List Msg)) → List (Option ℕ) → Type 0
MayGoOn {S} b settled routes t until components inboxes agenda = (system : System S) × Stands b settled system routes t 0 components inboxes agenda × (until ≤ system.end)

-- of whatever system a run stands at t, it then stands at a time
abbrev pub RunsUntil : {S : Type 0} → Behaviour S → (S → ℕ → Type 0) → List (List (Option Route)) → ℕ → ℕ → List (Component S) → List (List (List Msg)) → List (Option ℕ) → List (Component S) → List (List (List Msg)) → List (Option ℕ) → Type 0
RunsUntil {S} b settled routes t until components inboxes agenda components' inboxes' agenda' = (system : System S) → Stands b settled system routes t 0 components inboxes agenda → until ≤ system.end → Stands b settled system routes until 0 components' inboxes' agenda'
