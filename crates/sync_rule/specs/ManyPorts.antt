-- One port of many.
use Rattle.std.specs.Prelude.{ℕ, ◌≡◌, ◌<◌, [], ◌∷◌, List, Bool, true, false, All, slice_get, slice_set, Option, Some, None, MatchOption}
use Rattle.sb_message.specs.declared.message.Msg.{Msg}
use Rattle.sb_message.specs.declared.message.Body.{Body}
use Rattle.sync_rule.specs.Ports.{In, Out, IsPlanned, taken, at_place}
use Rattle.sync_rule.specs.Soonest.{IsTimed}
use Rattle.sync_rule.specs.Times.{quiet_of}

-- the port with a number has changed, and the others are as they were
pub record AtPort {X : Type 0} (old new : List X) (port : ℕ) (changes : X → X → Type 0) : Type 0 where
  pub before : X
  pub after : X
  pub there : slice_get old port ≡ Some before
  pub changed : changes before after
  pub others : new ≡ slice_set old port after

-- a message waits first at a port
pub record IsHead (ins : List In) (port : ℕ) (m : Msg) : Type 0 where
  pub is : In
  pub there : slice_get ins port ≡ Some is
  pub more : List Msg
  pub head : is.inbox ≡ m ∷ more

-- the first message that waits at a port was taken
pub record TakesOne (old new : List In) (port : ℕ) (m : Msg) : Type 0 where
  pub head : IsHead old port m
  pub is : new ≡ at_place port taken old

-- nothing waits at a port
pub record IsEmptyAt (ins : List In) (port : ℕ) : Type 0 where
  pub is : In
  pub there : slice_get ins port ≡ Some is
  pub none : is.inbox ≡ []

abbrev pub TakesAt : List In → List In → ℕ → Option Msg → Type 0
TakesAt old new port None = IsEmptyAt old port
TakesAt old new port (Some m) = TakesOne old new port m

-- a port bars its component: nothing waits there, and it has not heard far enough
pub record Bars (ins : List In) (needed p : ℕ) : Type 0 where
  pub bound : ℕ
  pub quiet : IsTimed quiet_of ins p bound
  pub short : bound < needed

pub record IsLeastBar (ins : List In) (needed port : ℕ) : Type 0 where
  pub bars : Bars ins needed port
  pub first : (p : ℕ) → p < port → Bars ins needed p → ⊥

-- the least port that bars, or none does
abbrev pub LeastBar : List In → ℕ → Option ℕ → Type 0
LeastBar ins needed least = MatchOption least ((p : ℕ) → Bars ins needed p → ⊥) (IsLeastBar ins needed)

-- what waits to be sent at a port
abbrev pub outbox_at : Option Out → List Msg
outbox_at None = []
outbox_at (Some o) = o.outbox

abbrev pub outbox_in : List Out → ℕ → List Msg
outbox_in outs port = outbox_at (slice_get outs port)

-- the plans of all ports keep the limits
abbrev pub ArePlanned : List Out → Type 0
ArePlanned outs = (p : ℕ) (o : Out) → slice_get outs p ≡ Some o → IsPlanned o.plan

-- each send is by one of so many ports
abbrev pub HavePorts : ℕ → List (ℕ × Body) → Type 0
HavePorts n sends = All (λ (sent : ℕ × Body). sent.0 < n) sends

-- nothing waits to be sent at the ports below n
abbrev pub SentBelow : List Out → ℕ → Type 0
SentBelow outs n = (p : ℕ) (o : Out) → p < n → slice_get outs p ≡ Some o → o.outbox ≡ []

-- a message waits to be sent at a port
pub record WaitsAt (outs : List Out) (port : ℕ) : Type 0 where
  pub is : Out
  pub there : slice_get outs port ≡ Some is
  pub some : is.outbox ≡ [] → ⊥

-- a port is the least where one waits
pub record IsFirstWaiting (outs : List Out) (port : ℕ) : Type 0 where
  pub waits : WaitsAt outs port
  pub first : SentBelow outs port

-- whether anything waits there
pub record WaitBelow (outs : List Out) (n : ℕ) (waits : Bool) : Type 0 where
  pub none : waits ≡ false → SentBelow outs n
  pub some : waits ≡ true → SentBelow outs n → ⊥
