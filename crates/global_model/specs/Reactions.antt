-- What a device keeps over one moment.
use Rattle.std.specs.Prelude.{ℕ, ◌≡◌, ◌+◌, All}
use Rattle.sb_message.specs.declared.message.Body.{Body}
use Rattle.sb_message.specs.Receivable.{MaySend}
use Rattle.device_api.specs.Behaviour.{Reaction, Behaviour, IsNotPast, IsLater}

-- what a device keeps while it takes what arrives at t: its ports, that all its events were before the next moment, that
-- it isn't late, and that it may send what it sends
pub record IsTaking {S : Type 0} (b : Behaviour S) (settled : S → ℕ → Type 0) (s : S) (t : ℕ) (r : Reaction S) : Type 0 where
  pub same_ports : b.ports r.state ≡ b.ports s
  pub settled_after : settled r.state (t + 1)
  pub not_past : IsNotPast t (b.due r.state)
  pub sendable : All (λ (sent : ℕ × Body). MaySend (b.ports s) sent.0 sent.1) r.sends

-- what it keeps over all of a moment: after it the device is due later
pub record IsMoment {S : Type 0} (b : Behaviour S) (settled : S → ℕ → Type 0) (s : S) (t : ℕ) (r : Reaction S) : Type 0 where
  pub same_ports : b.ports r.state ≡ b.ports s
  pub settled_after : settled r.state (t + 1)
  pub later : IsLater t (b.due r.state)
  pub sendable : All (λ (sent : ℕ × Body). MaySend (b.ports s) sent.0 sent.1) r.sends
