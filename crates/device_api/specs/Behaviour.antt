-- A device as plain functions of its state, and what every device keeps.
use Rattle.std.specs.Prelude.{ℕ, ◌≡◌, ◌≤◌, ◌<◌, ◌+◌, ◌^◌, List, Option, Some, IfSome, All, length, true}
use Rattle.cs_base.specs.declared.port_kind.PortKind.{PortKind}
use Rattle.sb_message.specs.declared.message.Body.{Body}
use Rattle.sb_message.specs.Receivable.{MayReceive, MaySend, is_event}

-- what a device does at one moment: its new state, what it sends by which port, and the lines that it logs
pub record Reaction (S : Type 0) : Type 0 where
  pub state : S
  pub sends : List (ℕ × Body)
  pub lines : List (List ℕ)

-- what is sent by which port, and the lines that are logged
pub record SendsAndLines : Type 0 where
  pub sends : List (ℕ × Body)
  pub lines : List (List ℕ)

-- a device: the kinds of its ports, when it is due by itself, what it does when a body arrives at a time
-- on a port, and what it does when it is due
pub record Behaviour (S : Type 0) : Type 0 where
  pub ports : S → List PortKind
  pub due : S → Option ℕ
  pub take : S → ℕ → ℕ → Body → Reaction S
  pub tick : S → ℕ → Reaction S

-- a due time, if there is one, isn't before t
abbrev pub IsNotPast : ℕ → Option ℕ → Type 0
IsNotPast t due = IfSome due (λ d. t ≤ d)

-- a due time, if there is one, is after t
abbrev pub IsLater : ℕ → Option ℕ → Type 0
IsLater t due = IfSome due (λ d. t < d)

-- what a reaction at t keeps: the ports, that all events were before the next moment, and that each send
-- is an event which its port may send
pub record IsOrderly {S : Type 0} (b : Behaviour S) (settled : S → ℕ → Type 0) (s : S) (t : ℕ) (r : Reaction S) : Type 0 where
  pub same_ports : b.ports r.state ≡ b.ports s
  pub settled_after : settled r.state (t + 1)
  pub sendable : All (λ (sent : ℕ × Body). MaySend (b.ports s) sent.0 sent.1) r.sends

-- each body that is sent is an event: no null message and no introduction
abbrev pub AreEvents : List (ℕ × Body) → Type 0
AreEvents sends = All (λ (sent : ℕ × Body). is_event sent.1 ≡ true) sends

-- what a device in state s keeps; `settled s x` says that all its events were before x
pub record IsLawfulAt {S : Type 0} (b : Behaviour S) (settled : S → ℕ → Type 0) (s : S) : Type 0 where
  pub few_ports : (x : ℕ) → settled s x → length (b.ports s) ≤ 32
  pub take_sends_events : (t port : ℕ) (body : Body) → AreEvents (b.take s t port body).sends
  pub tick_sends_events : (t : ℕ) → AreEvents (b.tick s t).sends
  pub settled_later : (x y : ℕ) → settled s x → x ≤ y → settled s y
  pub take_orderly : (t port : ℕ) (body : Body) → MayReceive (b.ports s) port body → IsNotPast t (b.due s) → t < 10 ^ 15 → settled s (t + 1) → IsOrderly b settled s t (b.take s t port body)
  pub due_after_take : (t port : ℕ) (body : Body) → MayReceive (b.ports s) port body → IsNotPast t (b.due s) → t < 10 ^ 15 → settled s (t + 1) → IsNotPast t (b.due (b.take s t port body).state)
  pub tick_orderly : (t : ℕ) → b.due s ≡ Some t → t < 10 ^ 15 → settled s (t + 1) → IsOrderly b settled s t (b.tick s t)
  pub due_after_tick : (t : ℕ) → b.due s ≡ Some t → t < 10 ^ 15 → settled s (t + 1) → IsLater t (b.due (b.tick s t).state)

-- what every device keeps, in whatever state it is
pub record IsLawful {S : Type 0} (b : Behaviour S) (settled : S → ℕ → Type 0) : Type 0 where
  pub at : (s : S) → IsLawfulAt b settled s
