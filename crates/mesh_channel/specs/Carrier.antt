-- The steps of what carries a channel's messages, by the two ways that a link goes.
use Rattle.std.specs.Prelude.{ℕ, ◌≡◌, Bool, true, false, [], length, None}
use Rattle.cs_base.specs.declared.port_kind.PortKind.{PortKind}
use Rattle.cs_base.specs.declared.port_kind.Via.{Via}
use Rattle.cs_base.specs.declared.port_kind.Via.TheVariants.{Queue, Proxy}
use Rattle.sb_message.specs.declared.message.Msg.{Msg}
use Rattle.port_queue.specs.Plain.{Plain}
use Rattle.port_queue.specs.Plain as queue
use Rattle.framed_channel.specs.Channel as channel
use Rattle.framed_channel.specs.Steps as steps
use Rattle.mesh_channel.specs.declared.carrier.Carrier.{Carrier}
use Rattle.mesh_channel.specs.declared.carrier.Carrier.TheVariants.{Direct, Framed}

-- the kind of the port at which messages are received, as the end that sends knows it, and the other
abbrev pub kind_sent : Carrier → PortKind
kind_sent (Direct q) = q.kind
kind_sent (Framed c) = c.near.kind

abbrev pub kind_received : Carrier → PortKind
kind_received (Direct q) = q.kind
kind_received (Framed c) = c.far.kind

-- a queue of so many places in which nothing is held
abbrev pub empty : PortKind → ℕ → Plain
empty kind slots = record { kind = kind; slots = slots; held = [] }

-- a carrier on which nothing was sent yet
abbrev pub unused_channel : PortKind → ℕ → channel.Framed
unused_channel kind slots = record {
  near = empty kind slots;
  pipe = [];
  frames = record {
    place = record { kind = kind; last = None; offset = 0; waiting = [] };
    begun = [];
    fault = None;
  };
  moved = 0;
  far = empty kind slots;
}

abbrev pub unused : Via → PortKind → ℕ → Carrier
unused Queue kind slots = Direct (empty kind slots)
unused Proxy kind slots = Framed (unused_channel kind slots)

-- a message was sent, or there was no place for it
abbrev pub Pushes : Carrier → Msg → Carrier → Type 0
Pushes (Direct a) m (Direct b) = queue.Pushes a m b
Pushes (Direct a) m (Framed b) = ⊥
Pushes (Framed a) m (Direct b) = ⊥
Pushes (Framed a) m (Framed b) = steps.Sends a m b

abbrev pub Refuses : Carrier → Carrier → Type 0
Refuses (Direct a) (Direct b) = queue.Refuses a b
Refuses (Direct a) (Framed b) = ⊥
Refuses (Framed a) (Direct b) = ⊥
Refuses (Framed a) (Framed b) = steps.Refuses a b

-- a message was received, or there was none
abbrev pub Pops : Carrier → Msg → Carrier → Type 0
Pops (Direct a) m (Direct b) = queue.Pops a m b
Pops (Direct a) m (Framed b) = ⊥
Pops (Framed a) m (Direct b) = ⊥
Pops (Framed a) m (Framed b) = steps.Gives a m b

abbrev pub Empties : Carrier → Carrier → Type 0
Empties (Direct a) (Direct b) = queue.Empties a b
Empties (Direct a) (Framed b) = ⊥
Empties (Framed a) (Direct b) = ⊥
Empties (Framed a) (Framed b) = steps.Empties a b

-- how many bytes are in the byte stream
abbrev pub bytes_between : Carrier → ℕ
bytes_between (Direct q) = 0
bytes_between (Framed c) = length c.pipe

-- the steps between the queues of a channel over a byte stream, and when they are enabled. A queue
-- alone has none of them
abbrev pub MayTake : Carrier → Type 0
MayTake (Direct a) = ⊥
MayTake (Framed a) = steps.MayTake a

abbrev pub MayMove : ℕ → Carrier → Type 0
MayMove n (Direct a) = ⊥
MayMove n (Framed a) = steps.MayMove n a

abbrev pub MayPut : Carrier → Type 0
MayPut (Direct a) = ⊥
MayPut (Framed a) = steps.MayPut a

abbrev pub Takes : Carrier → Carrier → Type 0
Takes (Direct a) b = ⊥
Takes (Framed a) (Direct b) = ⊥
Takes (Framed a) (Framed b) = steps.Takes a b

abbrev pub Moves : ℕ → Carrier → Carrier → Type 0
Moves n (Direct a) b = ⊥
Moves n (Framed a) (Direct b) = ⊥
Moves n (Framed a) (Framed b) = steps.Moves n a b

abbrev pub Puts : Carrier → Carrier → Type 0
Puts (Direct a) b = ⊥
Puts (Framed a) (Direct b) = ⊥
Puts (Framed a) (Framed b) = steps.Puts a b

-- a step was made, which was enabled, or it isn't enabled, and nothing changed
abbrev pub Makes : (enabled step : Type 0) (a b : Carrier) → Bool → Type 0
Makes enabled step a b true = enabled × step
Makes enabled step a b false = (enabled → ⊥) × (b ≡ a)
