-- What holds of a carrier, wherever its steps have led it.
use Rattle.std.specs.Prelude.{ℕ, ◌≡◌, ◌≢◌, ◌≤◌, ◌↔◌, List, [], ◌∷◌, ◌++◌}
use Rattle.cs_base.specs.declared.port_kind.PortKind.{PortKind}
use Rattle.cs_base.specs.declared.port_kind.Via.{Via}
use Rattle.sb_message.specs.declared.message.Msg.{Msg}
use Rattle.sb_message.specs.Stream.{IsStream}
use Rattle.mesh_channel.specs.declared.carrier.Carrier.{Carrier}
use Rattle.mesh_channel.specs.Carrier.{kind_sent, kind_received, unused, Pushes, Refuses, Pops, Empties, MayTake, MayMove, MayPut, Takes, Moves, Puts}
use Rattle.mesh_channel.specs.Standing.{StandsSent, StandsReceived, Carries, IsIdle, IsCarrying}

-- each step keeps what is carried; a take, a move and a put for the same lists
pub record KeepsCarrying (a : Carrier) (sent received : List Msg) : Type 0 where
  pub push : (b : Carrier) (m : Msg) → IsStream (kind_sent a) (sent ++ m ∷ []) → Pushes a m b
      → Carries b (sent ++ m ∷ []) received
  pub pop : (b : Carrier) (m : Msg) → Pops a m b → Carries b sent (received ++ m ∷ [])
  pub take : (b : Carrier) → Takes a b → Carries b sent received
  pub move : (b : Carrier) (n : ℕ) → Moves n a b → Carries b sent received
  pub put : (b : Carrier) → Puts a b → Carries b sent received

-- and the kind of the channel
pub record KeepsKind (a : Carrier) : Type 0 where
  pub push : (b : Carrier) (m : Msg) → Pushes a m b → kind_sent b ≡ kind_sent a
  pub pop : (b : Carrier) (m : Msg) → Pops a m b → kind_sent b ≡ kind_sent a
  pub take : (b : Carrier) → Takes a b → kind_sent b ≡ kind_sent a
  pub move : (b : Carrier) (n : ℕ) → Moves n a b → kind_sent b ≡ kind_sent a
  pub put : (b : Carrier) → Puts a b → kind_sent b ≡ kind_sent a

abbrev pub KeepKind : Type 0
KeepKind = (a : Carrier) → KeepsKind a

abbrev pub BeginCarrying : Type 0
BeginCarrying = (via : Via) (kind : PortKind) (slots : ℕ) → 1 ≤ slots
    → Carries (unused via kind slots) [] []

abbrev pub GoOnCarrying : Type 0
GoOnCarrying = (a : Carrier) (sent received : List Msg) → Carries a sent received
    → KeepsCarrying a sent received

-- both ends are of one kind, and stand for the lists
pub record HasEnds (a : Carrier) (sent received : List Msg) : Type 0 where
  pub one_kind : kind_received a ≡ kind_sent a
  pub sends : StandsSent a sent
  pub receives : StandsReceived a received

abbrev pub HaveEnds : Type 0
HaveEnds = (a : Carrier) (sent received : List Msg) → Carries a sent received
    → HasEnds a sent received

-- what is under way is told by the carrier alone, and nothing is exactly where it is idle
abbrev pub HaveOneUnderWay : Type 0
HaveOneUnderWay = (a : Carrier) (sent received held sent' received' held' : List Msg)
    → Carries a sent received → sent ≡ received ++ held
    → Carries a sent' received' → sent' ≡ received' ++ held' → held ≡ held'

abbrev pub AreIdle : Type 0
AreIdle = (a : Carrier) (sent received : List Msg) → Carries a sent received
    → IsIdle a ↔ (sent ≡ received)

-- the message that is received is the next of what was sent
pub record IsNext (m : Msg) (sent received : List Msg) : Type 0 where
  pub rest : List Msg
  pub parts : sent ≡ received ++ m ∷ rest

abbrev pub ReceiveInOrder : Type 0
ReceiveInOrder = (a b : Carrier) (m : Msg) (sent received : List Msg) → Carries a sent received
    → Pops a m b → IsNext m sent received

-- some step is enabled: a take, the move of a byte, a put, or a receipt
pub data CanGoOn (a : Carrier) : Type 0 where
  by_take : MayTake a → CanGoOn a
  by_move : MayMove 1 a → CanGoOn a
  by_put : MayPut a → CanGoOn a
  by_receipt : (m : Msg) (b : Carrier) → Pops a m b → CanGoOn a

-- a message may be sent
pub record HasRoomFor (m : Msg) (a : Carrier) : Type 0 where
  pub after : Carrier
  pub pushed : Pushes a m after

-- while not all that was sent was received some step is enabled, and else any message may be sent
abbrev pub NeverStuck : Type 0
NeverStuck = (a : Carrier) (sent received : List Msg) → Carries a sent received
    → sent ≢ received → CanGoOn a

abbrev pub HaveRoom : Type 0
HaveRoom = (a : Carrier) (sent : List Msg) (m : Msg) → Carries a sent sent → HasRoomFor m a

-- what is received is one message, which leaves one carrier
pub record IsOnePop (m n : Msg) (b c : Carrier) : Type 0 where
  pub message : m ≡ n
  pub after : b ≡ c

-- each step leads to one carrier: a move where the bytes are those of messages
pub record LeadsOnce (a : Carrier) : Type 0 where
  pub push : (b c : Carrier) (m : Msg) → Pushes a m b → Pushes a m c → b ≡ c
  pub pop : (b c : Carrier) (m n : Msg) → Pops a m b → Pops a n c → IsOnePop m n b c
  pub take : (b c : Carrier) → Takes a b → Takes a c → b ≡ c
  pub move : (b c : Carrier) (n : ℕ) → IsCarrying a → Moves n a b → Moves n a c → b ≡ c
  pub put : (b c : Carrier) → Puts a b → Puts a c → b ≡ c

abbrev pub LeadOnce : Type 0
LeadOnce = (a : Carrier) → LeadsOnce a

-- where a message was refused none may be sent, and where none was there none may be received. What
-- was made was enabled
pub record RefusesRightly (a : Carrier) : Type 0 where
  pub full : (b c : Carrier) (m : Msg) → Refuses a b → Pushes a m c → ⊥
  pub none : (b c : Carrier) (m : Msg) → Empties a b → Pops a m c → ⊥
  pub full_keeps : (b : Carrier) → Refuses a b → b ≡ a
  pub none_keeps : (b : Carrier) → Empties a b → b ≡ a
  pub take : (b : Carrier) → Takes a b → MayTake a
  pub put : (b : Carrier) → Puts a b → MayPut a

abbrev pub RefuseRightly : Type 0
RefuseRightly = (a : Carrier) → RefusesRightly a
