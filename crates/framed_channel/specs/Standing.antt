-- The lists for which a channel over a byte stream stands.
use Rattle.std.specs.Prelude.{ℕ, ◌≡◌, ◌≤◌, ◌<◌, ◌+◌, ◌^◌, List, ◌++◌, length, None}
use Rattle.sb_message.specs.declared.message.Msg.{Msg}
use Rattle.sb_frame.specs.Frames.{AreFrames}
use Rattle.sb_frame.specs.Deframing.{Deframing, Stands}
use Rattle.port_queue.specs.Plain.{StandsFor, IsSent}
use Rattle.framed_channel.specs.Channel.{Framed}

-- one kind throughout, no fault in the bytes so far, and a place at least in the far queue
pub record IsSound (c : Framed) : Type 0 where
  pub no_fault : c.frames.fault ≡ None
  pub read_kind : c.frames.place.kind ≡ c.near.kind
  pub far_kind : c.far.kind ≡ c.near.kind
  pub place : 1 ≤ c.far.slots

-- the first of what was sent were taken; the bytes that left the pipe and then those in it are their
-- frames; the first of the messages of those that left it were put into the far queue, and the first
-- of these received
pub record CarriesFor (c : Framed) (sent received : List Msg) : Type 0 where
  pub sound : IsSound c
  pub taken : List Msg
  pub near : StandsFor c.near sent taken
  pub stream : List ℕ
  pub frames : AreFrames c.near.kind taken (stream ++ c.pipe)
  pub counted : length stream ≡ c.moved
  pub put : List Msg
  pub read : Stands c.frames stream put
  pub far : StandsFor c.far put received

-- for some list sent, for some list received, and for some of both
pub record CarriesSent (c : Framed) (sent : List Msg) : Type 0 where
  pub received : List Msg
  pub both : CarriesFor c sent received

pub record CarriesReceived (c : Framed) (received : List Msg) : Type 0 where
  pub sent : List Msg
  pub both : CarriesFor c sent received

pub record IsCarrying (c : Framed) : Type 0 where
  pub sent : List Msg
  pub received : List Msg
  pub both : CarriesFor c sent received

-- a piece is the next of the frames of messages that may be sent, and the count of bytes has room
-- for it
pub record MayRead (frames : Deframing) (piece : List ℕ) : Type 0 where
  pub no_fault : frames.fault ≡ None
  pub stream : List ℕ
  pub given : List Msg
  pub stands : Stands frames stream given
  pub short : length stream + length piece < 2 ^ 64
  pub messages : List Msg
  pub rest : List ℕ
  pub sent : IsSent frames.place.kind messages
  pub framed : AreFrames frames.place.kind messages ((stream ++ piece) ++ rest)
