-- Which event of a component is next, whether it may be processed, and when the component has ended.
use Rattle.std.specs.Prelude.{ℕ, ◌≡◌, ◌≤◌, ◌<◌, ◌+◌, ◌^◌, true, List, [], length, map, slice_get, Option, Some, MatchOption}
use Rattle.std.specs.List.{AllByRecursion}
use Rattle.cs_base.specs.declared.port_kind.PortKind.{PortKind}
use Rattle.sb_message.specs.Receivable.{receivable, is_event}
use Rattle.sb_message.specs.declared.message.Msg.{Msg}
use Rattle.device_api.specs.Behaviour.{Behaviour}
use Rattle.device_api.specs.Position.{Key, sync_key, message_key, tick_key, is_at_most}
use Rattle.sync_rule.specs.declared.next.Next.{Next}
use Rattle.sync_rule.specs.declared.next.Next.TheVariants.{Sync, Take, Tick}
use Rattle.sync_rule.specs.declared.runner.Runner.{Runner}
use Rattle.sync_rule.specs.Ports.{In, Out}
use Rattle.sync_rule.specs.Soonest.{IsTimed}
use Rattle.sync_rule.specs.ManyPorts.{Bars, IsLeastBar, IsFirstWaiting, ArePlanned}
use Rattle.sync_rule.specs.Times.{timer_of, head_of, quiet_of, time_of, needed_for}

-- what a component may do next: a port's null message is due, a message waits first at a port, the device is due
abbrev pub IsPending : {V : Type 0} → Behaviour V → Runner V → Next → Type 0
IsPending b r (Sync port u) = IsTimed timer_of r.outgoing port u
IsPending b r (Take port t) = IsTimed head_of r.incoming port t
IsPending b r (Tick t) = b.due r.device ≡ Some t

-- its place in the order of a component's events. Of one port's messages only the first is pending, so their
-- numbers are left out
abbrev pub key_of : Next → Key
key_of (Sync port u) = sync_key u port
key_of (Take port t) = message_key t port 0
key_of (Tick t) = tick_key t

-- the next event: the least of those that are pending
pub record IsNext {V : Type 0} (b : Behaviour V) (r : Runner V) (next : Next) : Type 0 where
  pub pending : IsPending b r next
  pub least : (other : Next) → IsPending b r other → is_at_most (key_of next) (key_of other) ≡ true

-- each port where nothing waits has heard so far
abbrev pub HasHeard : List In → ℕ → Type 0
HasHeard ins needed = (p bound : ℕ) → IsTimed quiet_of ins p bound → needed ≤ bound

-- no message waits to be sent
abbrev pub IsAllSent : List Out → Type 0
IsAllSent outs = (p : ℕ) (o : Out) → slice_get outs p ≡ Some o → o.outbox ≡ []

-- the least port where one waits, or none does
abbrev pub FirstWaiting : List Out → Option ℕ → Type 0
FirstWaiting outs port = MatchOption port (IsAllSent outs) (IsFirstWaiting outs)

-- an event may be processed: it is the next one, before the end, nothing waits to be sent, and no message can still
-- come in before it
pub record IsEnabled {V : Type 0} (b : Behaviour V) (r : Runner V) (next : Next) : Type 0 where
  pub is_next : IsNext b r next
  pub in_run : time_of next < r.end
  pub all_sent : IsAllSent r.outgoing
  pub heard : HasHeard r.incoming (needed_for next)

-- nothing is pending before the end
abbrev pub IsDone : {V : Type 0} → Behaviour V → Runner V → Type 0
IsDone b r = (next : Next) → IsPending b r next → r.end ≤ time_of next

-- the component has ended: nothing is pending before the end, each port where nothing waits has heard so far, and
-- nothing waits to be sent
pub record HasEnded {V : Type 0} (b : Behaviour V) (r : Runner V) : Type 0 where
  pub done : IsDone b r
  pub all_sent : IsAllSent r.outgoing
  pub heard : HasHeard r.incoming r.end

-- how far each port where nothing waits must have heard for the component to go on, or to have ended
pub record IsNeeded {V : Type 0} (b : Behaviour V) (r : Runner V) (needed : ℕ) : Type 0 where
  pub for_next : (next : Next) → IsNext b r next → time_of next < r.end → needed ≡ needed_for next
  pub for_end : IsDone b r → needed ≡ r.end

-- the least port that bars it
pub record IsBarred {V : Type 0} (b : Behaviour V) (r : Runner V) (port : ℕ) : Type 0 where
  pub needed : ℕ
  pub is_needed : IsNeeded b r needed
  pub bars : IsLeastBar r.incoming needed port

pub record IsUnbarred {V : Type 0} (b : Behaviour V) (r : Runner V) : Type 0 where
  pub needed : ℕ
  pub is_needed : IsNeeded b r needed
  pub none : (p : ℕ) → Bars r.incoming needed p → ⊥

-- the least port that bars it, or none does
abbrev pub BarredBy : {V : Type 0} → Behaviour V → Runner V → Option ℕ → Type 0
BarredBy b r port = MatchOption port (IsUnbarred b r) (IsBarred b r)

-- what waits at a port are events that it may receive
abbrev pub AreReceivable : PortKind → List Msg → Type 0
AreReceivable kind inbox = AllByRecursion (λ (m : Msg). (receivable kind m.body ≡ true) × (is_event m.body ≡ true)) inbox

-- a runner may go on: its ports are the device's and keep the limits, and the device may do what is next
pub record IsReady {V : Type 0} (b : Behaviour V) (settled : V → ℕ → Type 0) (r : Runner V) : Type 0 where
  pub short : r.end ≤ 10 ^ 15
  pub few : length r.incoming ≤ 32
  pub ports : map (λ (i : In). i.plan.kind) r.incoming ≡ b.ports r.device
  pub as_many : length r.outgoing ≡ length r.incoming
  pub planned : ArePlanned r.outgoing
  pub receivable : (p : ℕ) (i : In) → slice_get r.incoming p ≡ Some i → AreReceivable i.plan.kind i.inbox
  pub settled_then : (next : Next) → IsEnabled b r next → settled r.device (time_of next + 1)
  pub no_sends : r.done.sends ≡ []
  pub no_lines : r.done.lines ≡ []
