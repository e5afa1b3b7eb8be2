-- A component's ports as its runner keeps them, and what happens at one port.
use Rattle.std.specs.Prelude.{ℕ, ◌≤◌, ◌+◌, ◌-◌, ◌^◌, zero, suc, min, Bool, true, false, if◌then◌else◌, List, [], ◌∷◌, ◌++◌}
use Rattle.cs_base.specs.Plan.{partner}
use Rattle.sb_intro.specs.Expected.{expected}
use Rattle.sb_message.specs.Receivable.{is_event}
use Rattle.sb_message.specs.declared.message.Body.{Body}
use Rattle.sb_message.specs.declared.message.Body.TheVariants as body
use Rattle.sb_message.specs.declared.message.Msg.{Msg}
use Rattle.device_api.specs.declared.counts.Count.{Count}
use Rattle.sync_rule.specs.declared.port_plan.PortPlan.{PortPlan}

-- the plan of a port keeps the limits: 1 <= interval <= latency <= 10^12
pub record IsPlanned (plan : PortPlan) : Type 0 where
  pub some_interval : 1 ≤ plan.interval
  pub in_time : plan.interval ≤ plan.latency
  pub short : plan.latency ≤ 10 ^ 12

-- the receiving half of a port: the messages that wait to be taken, how far it has heard, and whether its
-- introduction has come
pub record In : Type 0 where
  pub plan : PortPlan
  pub inbox : List Msg
  pub bound : ℕ
  pub introduced : Bool

-- the sending half: the messages that wait to be sent, when its next null message is due, and what it has made
pub record Out : Type 0 where
  pub plan : PortPlan
  pub outbox : List Msg
  pub sync_due : ℕ
  pub count : Count

-- what a port of this plan says first, and what it hears first
abbrev pub introduction_of : PortPlan → Msg
introduction_of plan = record { at = 0; body = body.Intro (expected plan.kind plan.latency plan.interval) }

abbrev pub introduction_to : PortPlan → Msg
introduction_to plan = record { at = 0; body = body.Intro (expected (partner plan.kind) plan.latency plan.interval) }

-- both halves at the start
abbrev pub first_in : PortPlan → In
first_in plan = record { plan = plan; inbox = []; bound = 0; introduced = false }

abbrev pub first_out : PortPlan → Out
first_out plan = record { plan = plan; outbox = introduction_of plan ∷ []; sync_due = 0; count = record { syncs = 0; sends = 0 } }

-- one more, as numbers are counted: 2^64 - 1 stands for itself and all above it
abbrev pub one_more : ℕ → ℕ
one_more n = min (n + 1) (2 ^ 64 - 1)

-- a message made at u: it waits to be sent, and puts the timer off
abbrev pub made_at : ℕ → Msg → Count → Out → Out
made_at u m count o = record { plan = o.plan; outbox = o.outbox ++ m ∷ []; sync_due = u + o.plan.interval; count = count }

-- a null message is made at u
abbrev pub synced : ℕ → Out → Out
synced u o = made_at u (record { at = u + o.plan.latency; body = body.Sync }) (record { syncs = one_more o.count.syncs; sends = o.count.sends }) o

-- a body is sent at t
abbrev pub posted : ℕ → Body → Out → Out
posted t sent o = made_at t (record { at = t + o.plan.latency; body = sent }) (record { syncs = o.count.syncs; sends = one_more o.count.sends }) o

-- whether a message waits
abbrev pub waits_of : List Msg → Bool
waits_of [] = false
waits_of (m ∷ more) = true

-- the first message that waits has left
abbrev pub rest_of : List Msg → List Msg
rest_of [] = []
rest_of (m ∷ more) = more

abbrev pub passed_on : Out → Out
passed_on o = record { plan = o.plan; outbox = rest_of o.outbox; sync_due = o.sync_due; count = o.count }

abbrev pub taken : In → In
taken i = record { plan = i.plan; inbox = rest_of i.inbox; bound = i.bound; introduced = i.introduced }

-- an event waits to be taken; a null message and an introduction don't
abbrev pub waiting_of : Msg → List Msg
waiting_of m = if is_event m.body then m ∷ [] else []

-- a message came in
abbrev pub heard : Msg → In → In
heard m i = record { plan = i.plan; inbox = i.inbox ++ waiting_of m; bound = m.at; introduced = true }

-- the element with a number is changed
unfoldable pub at_place : {X : Type 0} → ℕ → (X → X) → List X → List X
at_place n f [] = []
at_place zero f (x ∷ xs) = f x ∷ xs
at_place (suc n) f (x ∷ xs) = x ∷ at_place n f xs

-- all sends of an event at t, in order, each at its port
unfoldable pub post_all : ℕ → List (ℕ × Body) → List Out → List Out
post_all t [] outs = outs
post_all t (sent ∷ more) outs = post_all t more (at_place sent.0 (posted t sent.1) outs)
