-- What a runner stands for: the local run of its component, from its start up to its position, on the lists that its
-- ports have received, and the transcripts of that run, of which its ports have sent the first part.
use Rattle.std.specs.Prelude.{ℕ, ◌≡◌, ◌≤◌, ◌+◌, ◌-◌, ◌^◌, Bool, true, false, List, [], ◌∷◌, ◌++◌, length, map, slice_get, Option, Some, None}
use Rattle.cs_base.specs.Plan.{partner}
use Rattle.sb_message.specs.Stream.{IsStream}
use Rattle.sb_message.specs.declared.message.Msg.{Msg}
use Rattle.device_api.specs.Behaviour.{Behaviour}
use Rattle.device_api.specs.Channels.{Channel}
use Rattle.device_api.specs.Counts.{count_of}
use Rattle.device_api.specs.Position.{Key, Position, is_reached, sync_key, message_key, tick_key, local_upto}
use Rattle.device_api.specs.Transcript.{bodies, bound_of}
use Rattle.device_api.specs.World.{Run}
use Rattle.port_queue.specs.Plain.{IsSent}
use Rattle.run_laws.specs.NextEvent.{AreInboxes, local_script}
use Rattle.sync_rule.specs.declared.next.Next.{Next}
use Rattle.sync_rule.specs.declared.next.Next.TheVariants.{Sync, Take, Tick}
use Rattle.sync_rule.specs.declared.port_plan.PortPlan.{PortPlan}
use Rattle.sync_rule.specs.declared.runner.Runner.{Runner}
use Rattle.sync_rule.specs.Ports.{In, Out, introduction_to}
use Rattle.sync_rule.specs.ManyPorts.{ArePlanned}

-- the run of a component by itself up to a position, on what its ports received
abbrev pub run_upto : {V : Type 0} → Behaviour V → V → Position → (ℕ → List Msg) → ℕ → Run V
run_upto b start position received end = local_upto b (length (b.ports start)) (λ port. bodies (received port)) start position end

-- the moment after the last event
abbrev pub after_last : Position → ℕ
after_last None = 0
after_last (Some last) = last.time + 1

-- what waits to be taken at a port
abbrev pub inbox_at : Option In → List Msg
inbox_at None = []
inbox_at (Some i) = i.inbox

abbrev pub inbox_in : List In → ℕ → List Msg
inbox_in ins port = inbox_at (slice_get ins port)

-- the place of a runner's next event in the order of all: of a message that is its number among those of its port
abbrev pub place_of : {V : Type 0} → (ℕ → List Msg) → Runner V → Next → Key
place_of received r (Sync port u) = sync_key u port
place_of received r (Take port t) = message_key t port (length (bodies (received port)) - length (inbox_in r.incoming port))
place_of received r (Tick t) = tick_key t

-- whether anything has come in
abbrev pub has_begun : List Msg → Bool
has_begun [] = false
has_begun (m ∷ more) = true

-- the least place that a message can have which is still to come in at a port
abbrev pub next_at : ℕ → List Msg → Key
next_at port received = message_key (bound_of received) port (length (bodies received))

-- a channel leads out of a port of this plan
pub record LeadsOut (ch : Channel) (port : ℕ) (plan : PortPlan) : Type 0 where
  pub from_port : ch.from.port ≡ port
  pub latency : ch.latency ≡ plan.latency
  pub interval : ch.interval ≡ plan.interval

-- the ports are those of the device at its start and keep the limits, and no effect of an event is left to be carried out
pub record IsFitted {V : Type 0} (b : Behaviour V) (start : V) (r : Runner V) : Type 0 where
  pub short : r.end ≤ 10 ^ 15
  pub few : length r.incoming ≤ 32
  pub kinds : map (λ (i : In). i.plan.kind) r.incoming ≡ b.ports start
  pub same_ports : b.ports r.device ≡ b.ports start
  pub same_plans : map (λ (o : Out). o.plan) r.outgoing ≡ map (λ (i : In). i.plan) r.incoming
  pub planned : ArePlanned r.outgoing
  pub no_sends : r.done.sends ≡ []
  pub no_lines : r.done.lines ≡ []

-- what a port has received, up to a position of its component
pub record HasReceived (position : Position) (port : ℕ) (received : List Msg) (i : In) : Type 0 where
  -- it has heard as far as the last message
  pub bound : i.bound ≡ bound_of received
  pub stream : IsSent i.plan.kind received
  -- the first message was its introduction
  pub introduced : i.introduced ≡ has_begun received
  pub first : (m : Msg) (more : List Msg) → received ≡ m ∷ more → m ≡ introduction_to i.plan
  -- nothing that can still come in was missed
  pub not_missed : i.inbox ≡ [] → is_reached position (next_at port received) ≡ false

-- what a port has made, up to a position of its component, of whose run the sends are given
pub record HasMade {V : Type 0} (position : Position) (run : Run V) (end port : ℕ) (sent : List Msg) (o : Out) : Type 0 where
  -- what it has sent and what waits are the transcript, on whichever channel leads out of it
  pub script : (ch : Channel) → LeadsOut ch port o.plan → local_script o.plan.kind ch run position end ≡ record { messages = sent ++ o.outbox; sync_due = o.sync_due }
  pub stream : IsStream (partner o.plan.kind) (sent ++ o.outbox)
  pub count : o.count ≡ count_of (sent ++ o.outbox)
  -- its next null message is still to come
  pub ahead : is_reached position (sync_key o.sync_due port) ≡ false

-- a runner stands at a position of the run from its start, where its ports have received and sent these lists
pub record Stands {V : Type 0} (b : Behaviour V) (settled : V → ℕ → Type 0) (start : V) (position : Position) (received sent : ℕ → List Msg) (r : Runner V) : Type 0 where
  pub fitted : IsFitted b start r
  -- its device and its log are those of the run
  pub device : r.device ≡ (run_upto b start position received r.end).state
  pub log : r.log ≡ (run_upto b start position received r.end).log
  -- of what its ports received, what comes after the position waits in their inboxes
  pub handled : ℕ → List Msg
  pub boxes : AreInboxes position (length (b.ports start)) (λ port. bodies (received port)) handled (inbox_in r.incoming)
  pub heard : (port : ℕ) (i : In) → slice_get r.incoming port ≡ Some i → HasReceived position port (received port) i
  pub made : (port : ℕ) (o : Out) → slice_get r.outgoing port ≡ Some o → HasMade position (run_upto b start position received r.end) r.end port (sent port) o
  -- the device's next tick is still to come
  pub tick_ahead : (t : ℕ) → b.due r.device ≡ Some t → is_reached position (tick_key t) ≡ false
  pub settled_now : settled r.device (after_last position)
  -- all events were before the end
  pub in_run : after_last position ≤ r.end
