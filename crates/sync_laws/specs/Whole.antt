-- Runners of all components of a network, and the messages that went between them.
use Rattle.std.specs.Prelude.{ℕ, ◌≡◌, ◌==◌, if◌then◌else◌, List, [], ◌++◌, length, map, All, slice_get, Option, Some, None}
use Rattle.cs_base.specs.Plan.{End, same_end}
use Rattle.sb_message.specs.declared.message.Msg.{Msg}
use Rattle.device_api.specs.Behaviour.{Behaviour}
use Rattle.device_api.specs.Channels.{Channel, channels}
use Rattle.device_api.specs.Position.{Position}
use Rattle.device_api.specs.World.{Network}
use Rattle.sync_rule.specs.declared.next.Next.{Next}
use Rattle.sync_rule.specs.declared.port_plan.PortPlan.{PortPlan}
use Rattle.sync_rule.specs.declared.runner.Runner.{Runner}
use Rattle.sync_rule.specs.Ports.{In, Out, IsPlanned}
use Rattle.sync_rule.specs.ManyPorts.{outbox_in}
use Rattle.sync_rule.specs.Next.{HasEnded, IsAllSent, IsEnabled}
use Rattle.sync_rule.specs.Steps.{started}
use Rattle.sync_laws.specs.Stands.{Stands}

-- lists by the port that sends or receives them, those of one component, and those where the list of one port is another
abbrev pub of_component : ℕ → (End → List Msg) → ℕ → List Msg
of_component c lists port = lists (record { component = c; port = port })

abbrev pub with_end : End → List Msg → (End → List Msg) → End → List Msg
with_end end messages lists other = if same_end other end then messages else lists other

-- positions by component, of which one is another
abbrev pub with_position : ℕ → Position → (ℕ → Position) → ℕ → Position
with_position c position positions other = if other == c then position else positions other

-- a channel is of the link that a port's plan is for
pub record IsPlannedBy (ch : Channel) (plan : PortPlan) : Type 0 where
  pub latency : ch.latency ≡ plan.latency
  pub interval : ch.interval ≡ plan.interval

-- what lies between the two ends of a channel, and the plans at both
pub record IsJoined {V : Type 0} (received sent held : End → List Msg) (runners : List (Runner V)) (ch : Channel) : Type 0 where
  pub between : sent ch.from ≡ received ch.to ++ held ch.from
  pub sender : (r : Runner V) (o : Out) → slice_get runners ch.from.component ≡ Some r → slice_get r.outgoing ch.from.port ≡ Some o → IsPlannedBy ch o.plan
  pub receiver : (r : Runner V) (i : In) → slice_get runners ch.to.component ≡ Some r → slice_get r.incoming ch.to.port ≡ Some i → IsPlannedBy ch i.plan

-- each component's runner stands, and what was sent on each channel is what was received and then what is still held
-- between its ends, in whatever queues and pipes
pub record IsWhole {V : Type 0} (net : Network V) (settled : V → ℕ → Type 0) (end : ℕ) (positions : ℕ → Position) (received sent held : End → List Msg) (runners : List (Runner V)) : Type 0 where
  pub as_many : length runners ≡ length net.starts
  pub ends : (c : ℕ) (r : Runner V) → slice_get runners c ≡ Some r → r.end ≡ end
  pub standing : (c : ℕ) (start : V) (r : Runner V) → slice_get net.starts c ≡ Some start → slice_get runners c ≡ Some r → Stands net.behaviour settled start (positions c) (of_component c received) (of_component c sent) r
  pub joined : (k : ℕ) (ch : Channel) → slice_get (channels net.links) k ≡ Some ch → IsJoined received sent held runners ch

-- what a port has made: what it has sent and what waits to be sent
abbrev pub outbox_of : {V : Type 0} → Option (Runner V) → ℕ → List Msg
outbox_of None port = []
outbox_of (Some r) port = outbox_in r.outgoing port

abbrev pub made_by : {V : Type 0} → (End → List Msg) → List (Runner V) → End → List Msg
made_by sent runners end = sent end ++ outbox_of (slice_get runners end.component) end.port

-- all components have ended
abbrev pub HaveEnded : {V : Type 0} → Behaviour V → List (Runner V) → Type 0
HaveEnded {V} b runners = (c : ℕ) (r : Runner V) → slice_get runners c ≡ Some r → HasEnded b r

-- a runner at its start, with plans for all ports that keep the limits
pub record IsStarted {V : Type 0} (b : Behaviour V) (settled : V → ℕ → Type 0) (end : ℕ) (start : V) (r : Runner V) : Type 0 where
  pub plans : List PortPlan
  pub is : r ≡ started start plans end
  pub kinds : map (λ (plan : PortPlan). plan.kind) plans ≡ b.ports start
  pub planned : All IsPlanned plans
  pub settled_then : settled start 0

-- the runners of all components of a network, at their starts, and the plans of their ports are for the network's links
pub record AreStarted {V : Type 0} (net : Network V) (settled : V → ℕ → Type 0) (end : ℕ) (runners : List (Runner V)) : Type 0 where
  pub as_many : length runners ≡ length net.starts
  pub started : (c : ℕ) (start : V) (r : Runner V) → slice_get net.starts c ≡ Some start → slice_get runners c ≡ Some r → IsStarted net.behaviour settled end start r
  pub sender : (k : ℕ) (ch : Channel) → slice_get (channels net.links) k ≡ Some ch → (r : Runner V) (o : Out) → slice_get runners ch.from.component ≡ Some r → slice_get r.outgoing ch.from.port ≡ Some o → IsPlannedBy ch o.plan
  pub receiver : (k : ℕ) (ch : Channel) → slice_get (channels net.links) k ≡ Some ch → (r : Runner V) (i : In) → slice_get runners ch.to.component ≡ Some r → slice_get r.incoming ch.to.port ≡ Some i → IsPlannedBy ch i.plan

-- no message waits to be sent, and none is between two ends
pub record IsStill {V : Type 0} (net : Network V) (held : End → List Msg) (runners : List (Runner V)) : Type 0 where
  pub all_sent : (c : ℕ) (r : Runner V) → slice_get runners c ≡ Some r → IsAllSent r.outgoing
  pub all_received : (k : ℕ) (ch : Channel) → slice_get (channels net.links) k ≡ Some ch → held ch.from ≡ []

-- some component may process its next event
pub record CanProcess {V : Type 0} (b : Behaviour V) (runners : List (Runner V)) : Type 0 where
  pub component : ℕ
  pub runner : Runner V
  pub there : slice_get runners component ≡ Some runner
  pub next : Next
  pub enabled : IsEnabled b runner next
