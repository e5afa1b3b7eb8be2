-- A deframer as its users see it, and the streams for which it stands.
use Rattle.std.specs.Prelude.{ℕ, ◌≡◌, ◌≢◌, ◌+◌, ◌<◌, ◌≤◌, ◌^◌, List, [], ◌∷◌, ◌++◌, length, take, drop, Option, Some, None}
use Rattle.cs_base.specs.declared.port_kind.PortKind.{PortKind}
use Rattle.sb_message.specs.declared.message.Msg.{Msg}
use Rattle.sb_message.specs.Spelling.{Spells}
use Rattle.sb_frame.specs.declared.frame_bad.FrameBad.{FrameBad}
use Rattle.sb_frame.specs.Frames.{AreFrames, IsOpen}
use Rattle.sb_frame.specs.Faults.{KeepsRule, IsRefused, rule_fault}

-- where a stream is read: the kind of the port that receives, the last timestamp, the place in the stream, and the
-- messages read that aren't taken yet
pub record Place : Type 0 where
  pub kind : PortKind
  pub last : Option ℕ
  pub offset : ℕ
  pub waiting : List Msg

-- these bytes of the stream are the frames of the messages given and then of those that wait, which keep the stream rule
pub record Reached (place : Place) (given : List Msg) (bytes : List ℕ) : Type 0 where
  pub frames : AreFrames place.kind (given ++ place.waiting) bytes
  pub rule : KeepsRule place.kind (given ++ place.waiting) place.last
  pub counted : length bytes ≡ place.offset

-- a deframer: the place of the frame that is begun, the bytes of it so far, and the stream's fault
pub record Deframing : Type 0 where
  pub place : Place
  pub begun : List ℕ
  pub fault : Option FrameBad

-- what is behind the last accepted frame: without a fault, the frame that is begun; with one, what is refused, and more
pub record StopsAt (place : Place) (rest : List ℕ) (b : FrameBad) : Type 0 where
  pub begun : List ℕ
  pub more : List ℕ
  pub parts : rest ≡ begun ++ more
  pub refused : IsRefused place.kind place.last place.offset begun b

abbrev pub IsBehind : Place → List ℕ → Option FrameBad → List ℕ → Type 0
IsBehind place begun None rest = (rest ≡ begun) × IsOpen begun
IsBehind place begun (Some b) rest = StopsAt place rest b

-- a deframer stands for a stream so far and the messages that it has given
pub record Stands (d : Deframing) (stream : List ℕ) (given : List Msg) : Type 0 where
  pub before : List ℕ
  pub rest : List ℕ
  pub parts : stream ≡ before ++ rest
  pub reached : Reached d.place given before
  pub behind : IsBehind d.place d.begun d.fault rest

-- a piece may be fed: of a stream for which the deframer stands, it makes one of fewer than 2^64 bytes
pub record MayFeed (d : Deframing) (piece : List ℕ) : Type 0 where
  pub stream : List ℕ
  pub given : List Msg
  pub stands : Stands d stream given
  pub short : length stream + length piece < 2 ^ 64

-- a frame's message was accepted: it waits behind the others
pub record Accepts (old : Place) (body : List ℕ) (new : Place) : Type 0 where
  pub message : Msg
  pub spelled : Spells old.kind message body
  pub in_order : rule_fault old.last old.offset message ≡ None
  pub place : new ≡ record old { last = Some message.at; offset = old.offset + (4 + length body); waiting = old.waiting ++ message ∷ [] }

-- the whole frames at the front of bytes were read, and what is left is open
pub record ReadsTo (new : Place) (given : List Msg) (before bytes : List ℕ) (n : ℕ) : Type 0 where
  pub reached : Reached new given (before ++ take n bytes)
  pub open_rest : IsOpen (drop n bytes)

-- the frames before a refused one were read
pub record StopsIn (new : Place) (given : List Msg) (before bytes : List ℕ) (b : FrameBad) : Type 0 where
  pub read : ℕ
  pub reached : Reached new given (before ++ take read bytes)
  pub stops : StopsAt new (drop read bytes) b

-- a message was handed out: it was the first that waited
abbrev pub NextIs : Deframing → Msg → Deframing → Type 0
NextIs a m b = a ≡ record b { place = record b.place { waiting = m ∷ b.place.waiting } }

-- the frame that was begun came to its end in so many bytes of the piece, and its message was accepted, or none was
-- begun
pub record FinishesIn (old : Deframing) (piece : List ℕ) (new : Deframing) (n : ℕ) : Type 0 where
  pub fits : n ≤ length piece
  pub kind : new.place.kind ≡ old.place.kind
  pub keeps : take (length old.place.waiting) new.place.waiting ≡ old.place.waiting
  pub counted : new.place.offset ≡ old.place.offset + (length old.begun + n)
  pub reached : (given : List Msg) (before : List ℕ) → Reached old.place given before → Reached new.place given (before ++ (old.begun ++ take n piece))

-- the whole piece went into the frame that was begun, which is open still
pub record StaysOpen (old : Deframing) (piece : List ℕ) (new : Deframing) : Type 0 where
  pub place : new.place ≡ old.place
  pub begun : new.begun ≡ old.begun ++ piece
  pub is_open : IsOpen new.begun

abbrev pub Finishes : Deframing → List ℕ → Deframing → Option ℕ → Type 0
Finishes old piece new None = StaysOpen old piece new
Finishes old piece new (Some n) = FinishesIn old piece new n
