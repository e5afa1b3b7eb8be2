-- The states that a device comes to from its start.
use Rattle.std.specs.Prelude.{ℕ, ◌≡◌, ◌≤◌, ◌<◌, ◌+◌, ◌^◌, length, Some}
use Rattle.sb_message.specs.declared.message.Body.{Body}
use Rattle.sb_message.specs.Receivable.{MayReceive}
use Rattle.device_api.specs.Behaviour.{Behaviour, IsNotPast}

-- a state that a device comes to by calls which it allows
pub data IsReached {S : Type 0} (b : Behaviour S) (settled : S → ℕ → Type 0) (start : S) : S → Type 0 where
  at_start : IsReached b settled start start
  by_take : (s : S) (t port : ℕ) (body : Body) → IsReached b settled start s → MayReceive (b.ports s) port body → IsNotPast t (b.due s) → t < 10 ^ 15 → settled s (t + 1) → IsReached b settled start (b.take s t port body).state
  by_tick : (s : S) (t : ℕ) → IsReached b settled start s → b.due s ≡ Some t → t < 10 ^ 15 → settled s (t + 1) → IsReached b settled start (b.tick s t).state

-- what holds of each state that a device comes to: its ports are those of the start, at most 32, and all its events
-- were before some time and each later one
pub record IsKept {S : Type 0} (b : Behaviour S) (settled : S → ℕ → Type 0) (start s : S) : Type 0 where
  pub same_ports : b.ports s ≡ b.ports start
  pub few_ports : length (b.ports s) ≤ 32
  pub last : ℕ
  pub settled_after : (x : ℕ) → last ≤ x → settled s x

-- that holds of whatever state the device comes to from whatever start
abbrev pub KeepsItsPorts : {S : Type 0} → Behaviour S → (S → ℕ → Type 0) → Type 0
KeepsItsPorts {S} b settled = (start s : S) → settled start 0 → IsReached b settled start s → IsKept b settled start s
