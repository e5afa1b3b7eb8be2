-- One moment of one component: what waits for it is taken port by port, and then it ticks if it is due.
use Rattle.std.specs.Prelude.{ℕ, ◌≡◌, ◌+◌, ◌==◌, ◌≤◌, ◌<◌, nat_le, nat_lt, ◌&&◌, if◌then◌else◌, option_map, IsSome, List, [], ◌∷◌, length, filter, Option, Some, None, All}
use Rattle.cs_base.specs.declared.port_kind.PortKind.{PortKind}
use Rattle.cs_base.specs.Plan.{End}
use Rattle.sb_message.specs.declared.message.Msg.{Msg}
use Rattle.sb_message.specs.Receivable.{MayReceive}
use Rattle.device_api.specs.Behaviour.{Reaction, SendsAndLines, Behaviour}
use Rattle.device_api.specs.World.{Arrival, take_all, arrivals, arrivals_on}
use Rattle.moment_tree.specs.declared.agenda.Moment.{Moment}
use Rattle.global_model.specs.Inboxes.{port_of, end_at, with_queue}

-- the queue of a port; none where there is no such port
abbrev pub queue_in : Option (List Msg) → List Msg
queue_in None = []
queue_in (Some queue) = queue

abbrev pub queue_at : List (List (List Msg)) → End → List Msg
queue_at lists end = queue_in (port_of lists end)

-- what is left of a queue from a time on
abbrev pub from_time : ℕ → List Msg → List Msg
from_time u queue = filter (λ m. nat_le u m.at) queue

-- no time is before low or before the one in front of it
abbrev pub Rises : ℕ → List Msg → Type 0
Rises low [] = Unit {0}
Rises low (m ∷ more) = (low ≤ m.at) × Rises m.at more

-- what waits at a port: the port may receive it, and the times rise from low
pub record IsQueue (ports : List PortKind) (port low : ℕ) (queue : List Msg) : Type 0 where
  pub rises : Rises low queue
  pub receivable : All (λ (m : Msg). MayReceive ports port m.body) queue

-- what a device has done so far at a moment
abbrev pub so_far : {S : Type 0} → S → SendsAndLines → Reaction S
so_far s effects = record { state = s; sends = effects.sends; lines = effects.lines }

-- a device takes what a port's queue has for t
abbrev pub take_queue : {S : Type 0} → Behaviour S → ℕ → ℕ → List Msg → S → Reaction S
take_queue b t port queue s = take_all b t (arrivals_on t port 0 queue) s

-- the queues after the first so many ports of component c have taken what they have for the time before u
abbrev pub taken_before : ℕ → ℕ → ℕ → (End → Option (List Msg)) → End → Option (List Msg)
taken_before u c count queues = λ e. if (c == e.component) && nat_lt e.port count then option_map (from_time u) (queues e) else queues e

-- what waits at the ports of component c
abbrev pub inputs_of : List (List (List Msg)) → ℕ → ℕ → List Msg
inputs_of inboxes c = λ p. queue_at inboxes (end_at c p)

-- each port of component c is there, and its queue is what the port may receive, from low on
pub record AreQueues (ports : List PortKind) (c low : ℕ) (inboxes : List (List (List Msg))) : Type 0 where
  pub there : (p : ℕ) → p < length ports → IsSome (port_of inboxes (end_at c p))
  pub waits : (p : ℕ) → p < length ports → IsQueue ports p low (inputs_of inboxes c p)

-- what waits at a port, and at all ports, of a moment's component is what they may receive from that moment on
abbrev pub IsQueueFor : List PortKind → ℕ → Moment → List (List (List Msg)) → Type 0
IsQueueFor ports port m inboxes = IsQueue ports port m.at (queue_at inboxes (end_at m.component port))

abbrev pub AreQueuesFor : List PortKind → Moment → List (List (List Msg)) → Type 0
AreQueuesFor ports m inboxes = AreQueues ports m.component m.at inboxes

-- a device takes what waits at a port for a moment
abbrev pub take_waiting : {S : Type 0} → Behaviour S → Moment → ℕ → List (List (List Msg)) → S → Reaction S
take_waiting b m port inboxes s = take_queue b m.at port (queue_at inboxes (end_at m.component port)) s

-- what waits at the ports of a device for a moment
abbrev pub arriving : {S : Type 0} → Behaviour S → Moment → List (List (List Msg)) → S → List Arrival
arriving b m inboxes s = arrivals m.at (inputs_of inboxes m.component) (length (b.ports s))

-- a port has taken what it has for a moment
abbrev pub HasTaken : Moment → ℕ → List (List (List Msg)) → List (List (List Msg)) → Type 0
HasTaken m port inboxes inboxes' = (e : End) → port_of inboxes' e ≡ with_queue (port_of inboxes) (end_at m.component port) (from_time (m.at + 1) (queue_at inboxes (end_at m.component port))) e

-- the first so many ports have
abbrev pub HaveTaken : Moment → ℕ → List (List (List Msg)) → List (List (List Msg)) → Type 0
HaveTaken m count inboxes inboxes' = (e : End) → port_of inboxes' e ≡ taken_before (m.at + 1) m.component count (port_of inboxes) e
