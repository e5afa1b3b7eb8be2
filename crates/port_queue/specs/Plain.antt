-- A plain queue: what it holds, and what pushes and pops leave.
use Rattle.std.specs.Prelude.{ℕ, ◌≡◌, ◌<◌, List, [], ◌∷◌, ◌++◌, length, ◌⊎◌}
use Rattle.cs_base.specs.declared.port_kind.PortKind.{PortKind}
use Rattle.sb_message.specs.declared.message.Msg.{Msg}
use Rattle.sb_message.specs.Stream.{IsStream}

-- the kind of the port that receives its messages, its number of places, and what it holds, the message that is next out first
pub record Plain : Type 0 where
  pub kind : PortKind
  pub slots : ℕ
  pub held : List Msg

-- what was sent is empty or a stream
abbrev pub IsSent : PortKind → List Msg → Type 0
IsSent kind sent = (sent ≡ []) ⊎ IsStream kind sent

-- what was received, and then what the queue holds, is what was sent
pub record StandsFor (queue : Plain) (sent received : List Msg) : Type 0 where
  pub held_between : received ++ queue.held ≡ sent
  pub is_sent : IsSent queue.kind sent

-- for some list received, and for some list sent
pub record StandsForSent (queue : Plain) (sent : List Msg) : Type 0 where
  pub received : List Msg
  pub both : StandsFor queue sent received

pub record StandsForReceived (queue : Plain) (received : List Msg) : Type 0 where
  pub sent : List Msg
  pub both : StandsFor queue sent received

-- a message was sent: a place was free, and it stands at the end of what is held
pub record Pushes (a : Plain) (m : Msg) (b : Plain) : Type 0 where
  pub room : length a.held < a.slots
  pub is : b ≡ record a { held = a.held ++ m ∷ [] }

-- no place was free, and nothing changed
pub record Refuses (a b : Plain) : Type 0 where
  pub full : length a.held ≡ a.slots
  pub unchanged : b ≡ a

-- a message was received: it was the first of what was held
abbrev pub Pops : Plain → Msg → Plain → Type 0
Pops a m b = a ≡ record b { held = m ∷ b.held }

-- nothing was held, and nothing changed
pub record Empties (a b : Plain) : Type 0 where
  pub none : a.held ≡ []
  pub unchanged : b ≡ a
