-- A channel over a byte stream as its users see it.
use Rattle.std.specs.Prelude.{ℕ, ◌≡◌, List, [], None}
use Rattle.cs_base.specs.declared.port_kind.PortKind.{PortKind}
use Rattle.port_queue.specs.Plain.{Plain}
use Rattle.sb_frame.specs.Deframing.{Deframing, Stands}

-- the queue of messages not yet framed, the bytes in the pipe, what takes messages out of the
-- bytes that left the pipe and how many these are, and the queue of messages that may be received
pub record Framed : Type 0 where
  pub near : Plain
  pub pipe : List ℕ
  pub frames : Deframing
  pub moved : ℕ
  pub far : Plain

-- a channel to a port of this kind, with so many places in each queue, in which nothing was sent
pub record IsUnused (kind : PortKind) (slots : ℕ) (c : Framed) : Type 0 where
  pub near : c.near ≡ record { kind = kind; slots = slots; held = [] }
  pub pipe : c.pipe ≡ []
  pub read_kind : c.frames.place.kind ≡ kind
  pub no_fault : c.frames.fault ≡ None
  pub unread : Stands c.frames [] []
  pub moved : c.moved ≡ 0
  pub far : c.far ≡ record { kind = kind; slots = slots; held = [] }
