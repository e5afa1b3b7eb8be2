-- The queue and its two sides as their users see them.
use Rattle.std.specs.Prelude.{ℕ, ◌≡◌, ◌+◌, List, [], ◌∷◌, ◌++◌, length}
use mathlib.Core.List.{IsPrefix}
use Rattle.atomic_table.specs.Seated.{TableId}
use Rattle.cs_base.specs.declared.port_kind.PortKind.{PortKind}
use Rattle.sb_message.specs.declared.message.Msg.{Msg}
use Rattle.sb_message.specs.Stream.{IsStream}
use Rattle.port_queue.specs.declared.ports.Full.{Full}

-- a queue: its name, which has the number of slots, and its receiver's kind of port
pub record Named : Type 0 where
  pub name : TableId
  pub kind : PortKind

-- the producer's side of the queue with this name: all that it sent, and how often there was no room
pub record Sender : Type 0 where
  pub queue : TableId
  pub kind : PortKind
  pub sent : List Msg
  pub misses : ℕ

-- the consumer's side: all that it received, and how often there was nothing
pub record Receiver : Type 0 where
  pub queue : TableId
  pub kind : PortKind
  pub received : List Msg
  pub misses : ℕ

-- the two sides of a new queue
abbrev pub new_sender : TableId → PortKind → Sender
new_sender queue kind = record { queue = queue; kind = kind; sent = []; misses = 0 }

abbrev pub new_receiver : TableId → PortKind → Receiver
new_receiver queue kind = record { queue = queue; kind = kind; received = []; misses = 0 }

-- the message was sent
abbrev pub Pushed : Sender → Msg → Sender → Type 0
Pushed old m new = new ≡ record old { sent = old.sent ++ m ∷ [] }

-- as many messages as there are slots were sent and not received
abbrev pub IsFull : ℕ → List Msg → Type 0
IsFull slots sent = (received : List Msg) × IsPrefix received sent × (length sent ≡ length received + slots)

-- there was no room
pub record Refused (old new : Sender) : Type 0 where
  pub after : new ≡ record old { misses = old.misses + 1 }
  pub full : IsFull old.queue.slots old.sent

-- there was no room, and the message comes back
abbrev pub CameBack : Sender → Msg → Sender → Full → Type 0
CameBack old m new back = (back.0 ≡ m) × Refused old new

-- the message was received, and it goes on the stream
pub record Popped (old : Receiver) (m : Msg) (new : Receiver) : Type 0 where
  pub after : new ≡ record old { received = old.received ++ m ∷ [] }
  pub stream : IsStream old.kind (old.received ++ m ∷ [])

-- there was no message
abbrev pub Emptied : Receiver → Receiver → Type 0
Emptied old new = new ≡ record old { misses = old.misses + 1 }
