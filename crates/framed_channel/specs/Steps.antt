-- What the steps of a channel over a byte stream change, and when they are enabled.
use Rattle.std.specs.Prelude.{ℕ, ◌≡◌, ◌≤◌, ◌<◌, ◌+◌, Bool, true, false, List, [], ◌∷◌, ◌++◌, length, take, drop, None}
use Rattle.sb_message.specs.declared.message.Msg.{Msg}
use Rattle.sb_message.specs.Stream.{IsStream}
use Rattle.sb_frame.specs.Framing.{AppendsFrame}
use Rattle.sb_frame.specs.Deframing.{Deframing, Stands, NextIs}
use Rattle.port_queue.specs.Plain.{Plain, Pushes, Pops}
use Rattle.framed_channel.specs.Channel.{Framed}

abbrev pub MayTake : Framed → Type 0
MayTake c = 0 < length c.near.held

abbrev pub MayMove : ℕ → Framed → Type 0
MayMove n c = (1 ≤ n) × (n ≤ length c.pipe)

abbrev pub MayPut : Framed → Type 0
MayPut c = (0 < length c.frames.place.waiting) × (length c.far.held < c.far.slots)

-- the next message of the near queue went to the end of the pipe as a frame
pub record Takes (a b : Framed) : Type 0 where
  pub message : Msg
  pub popped : Pops a.near message b.near
  pub framed : AppendsFrame message a.pipe b.pipe
  pub is : b ≡ record a { near = b.near; pipe = b.pipe }

-- the same of a queue and a pipe alone; false where the queue is empty
pub record TakesOne (near : Plain) (pipe : List ℕ) (near' : Plain) (pipe' : List ℕ) : Type 0 where
  pub message : Msg
  pub popped : Pops near message near'
  pub framed : AppendsFrame message pipe pipe'

pub record TakesNone (near : Plain) (pipe : List ℕ) (near' : Plain) (pipe' : List ℕ) : Type 0 where
  pub none : near.held ≡ []
  pub same_queue : near' ≡ near
  pub same_pipe : pipe' ≡ pipe

abbrev pub TakesFrom : Plain → List ℕ → Plain → List ℕ → Bool → Type 0
TakesFrom near pipe near' pipe' true = TakesOne near pipe near' pipe'
TakesFrom near pipe near' pipe' false = TakesNone near pipe near' pipe'

-- a deframer read a piece of the stream, in which it met no fault
pub record Reads (a : Deframing) (piece : List ℕ) (b : Deframing) : Type 0 where
  pub kind : b.place.kind ≡ a.place.kind
  pub no_fault : b.fault ≡ None
  pub stands : (stream : List ℕ) (given : List Msg)
      → Stands a stream given → Stands b (stream ++ piece) given

-- so many bytes at the front of the pipe were read
pub record Moves (n : ℕ) (a b : Framed) : Type 0 where
  pub fits : n ≤ length a.pipe
  pub reads : Reads a.frames (take n a.pipe) b.frames
  pub is : b ≡ record a { pipe = drop n a.pipe; frames = b.frames; moved = a.moved + n }

-- the first message that was read went into the far queue
pub record Puts (a b : Framed) : Type 0 where
  pub message : Msg
  pub next : NextIs a.frames message b.frames
  pub pushed : Pushes a.far message b.far
  pub is : b ≡ record a { frames = b.frames; far = b.far }

-- a step was made, which was enabled, or it isn't enabled, and nothing changed
abbrev pub Makes : (enabled step : Type 0) (a b : Framed) → Bool → Type 0
Makes enabled step a b true = enabled × step
Makes enabled step a b false = (enabled → ⊥) × (b ≡ a)

-- a message went into the near queue
pub record Sends (a : Framed) (m : Msg) (b : Framed) : Type 0 where
  pub pushed : Pushes a.near m b.near
  pub is : b ≡ record a { near = b.near }

-- the near queue is full
pub record Refuses (a b : Framed) : Type 0 where
  pub full : length a.near.held ≡ a.near.slots
  pub unchanged : b ≡ a

-- a message came out of the far queue
pub record Gives (a : Framed) (m : Msg) (b : Framed) : Type 0 where
  pub popped : Pops a.far m b.far
  pub is : b ≡ record a { far = b.far }

-- the far queue is empty
pub record Empties (a b : Framed) : Type 0 where
  pub none : a.far.held ≡ []
  pub unchanged : b ≡ a

-- whatever steps from a channel on, in which these messages were sent, as the stream rule allows,
-- and these received
pub data Ran (a : Framed) : List Msg → List Msg → Framed → Type 0 where
  none_yet : Ran a [] [] a
  and_takes : (sent received : List Msg) (b c : Framed)
      → Ran a sent received b → Takes b c → Ran a sent received c
  and_moves : (sent received : List Msg) (b c : Framed) (n : ℕ)
      → Ran a sent received b → Moves n b c → Ran a sent received c
  and_puts : (sent received : List Msg) (b c : Framed)
      → Ran a sent received b → Puts b c → Ran a sent received c
  and_sends : (sent received : List Msg) (b c : Framed) (m : Msg)
      → Ran a sent received b → IsStream b.near.kind (sent ++ m ∷ []) → Sends b m c
      → Ran a (sent ++ m ∷ []) received c
  and_gives : (sent received : List Msg) (b c : Framed) (m : Msg)
      → Ran a sent received b → Gives b m c → Ran a sent (received ++ m ∷ []) c
