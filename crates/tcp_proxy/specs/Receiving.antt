-- The receiving end of a channel over a byte stream.
use Rattle.std.specs.Prelude.{ℕ, ◌≡◌, ◌≢◌, ◌<◌, ◌+◌, ◌-◌, ◌⊎◌, ◌↔◌, IsTrue, List, [], ◌∷◌, ◌++◌, length, take, drop, Option, Some, None, option_map, IfSome, Result, Ok, Err, IfOk, OnErr}
use Rattle.std.specs.Option.{option_to_list}
use Rattle.cs_base.specs.declared.port_kind.PortKind.{PortKind}
use Rattle.cs_base.specs.Outside.{Rose}
use Rattle.cs_base.specs.declared.no_memory.Failed.{Failed}
use Rattle.cs_base.specs.declared.wires.Got.{Got}
use Rattle.cs_base.specs.declared.wires.Got.TheVariants as got
use Rattle.cs_base.specs.Wires.{InSeen, GaveSome, given_after}
use Rattle.sb_message.specs.declared.message.Msg.{Msg}
use Rattle.sb_frame.specs.declared.frame_bad.FrameBad.{FrameBad}
use Rattle.sb_frame.specs.Frames.{AreFrames}
use Rattle.sb_frame.specs.Faults.{FirstFault}
use Rattle.sb_frame.specs.Deframing.{Deframing, Stands}
use Rattle.port_queue.specs.Runs.{Ran}
use Rattle.tcp_proxy.specs.declared.hop.Hop.{Hop}
use Rattle.tcp_proxy.specs.declared.hop.Hop.TheVariants.{Moved, Idle}
use Rattle.tcp_proxy.specs.declared.hop.ProxyBad.{ProxyBad}
use Rattle.tcp_proxy.specs.declared.hop.ProxyBad.TheVariants as bad
use Rattle.tcp_proxy.specs.Turns.{Never}

-- a receiving end: its wire, the bytes that it keeps, what takes messages out of them, the message that the queue had no
-- room for, how many turns it has made, and how many of the latest in a row moved nothing
pub record Incoming (I : Type 0) : Type 0 where
  pub wire : I
  pub kept : List ℕ
  pub frames : Deframing
  pub held : Option Msg
  pub turns : ℕ
  pub still : ℕ

-- these were pushed: with the message that is held they are what the deframer of this stream has given
abbrev pub Carries : Deframing → Option Msg → List ℕ → List Msg → Type 0
Carries frames held stream pushed = Stands frames stream (pushed ++ option_to_list held)

-- the queue stands for the list that was pushed, and is of the kind of the stream
pub record Meets {T : Type 0} (kind : T → PortKind) (stands : T → List Msg → Type 0) (frames : Deframing) (held : Option Msg) (stream : List ℕ) (far : T) (pushed : List Msg) : Type 0 where
  pub carries : Carries frames held stream pushed
  pub port : stands far pushed
  pub same_kind : kind far ≡ frames.place.kind

-- it does so for some list
pub record IsFitIn {T : Type 0} (kind : T → PortKind) (stands : T → List Msg → Type 0) (frames : Deframing) (held : Option Msg) (stream : List ℕ) (far : T) : Type 0 where
  pub pushed : List Msg
  pub meets : Meets kind stands frames held stream far pushed

-- what was pushed is the beginning of the messages of these bytes
pub record ArePushedFrom (kind : PortKind) (bytes : List ℕ) (pushed : List Msg) : Type 0 where
  pub more : List Msg
  pub front : List ℕ
  pub rest : List ℕ
  pub parts : bytes ≡ front ++ rest
  pub frames : AreFrames kind (pushed ++ more) front

-- no message waits
pub record IsPushedOut (frames : Deframing) (held : Option Msg) : Type 0 where
  pub none_held : held ≡ None
  pub none_waits : frames.place.waiting ≡ []

-- messages were pushed one after another; then a push may have met a full queue
pub record Gives {T : Type 0} (kind : T → PortKind) (stands : T → List Msg → Type 0) (pushes : T → Msg → T → Type 0) (refuses : T → T → Type 0) (frames : Deframing) (held : Option Msg) (far : T) (frames' : Deframing) (held' : Option Msg) (far' : T) (n : ℕ) : Type 0 where
  pub messages : List Msg
  pub count : n ≡ length messages
  pub last : T
  pub pushed : Ran pushes Never far messages last
  pub refused : (far' ≡ last) ⊎ refuses last far'
  pub none : n ≡ 0 → IsPushedOut frames held ⊎ refuses far far'
  pub same_kind : frames'.place.kind ≡ frames.place.kind
  pub on : (stream : List ℕ) (pushed : List Msg) → Meets kind stands frames held stream far pushed → Meets kind stands frames' held' stream far' (pushed ++ messages)

-- what a deframer that was fed answers
abbrev pub FeedCause : Deframing → Result Hop ProxyBad → Type 0
FeedCause frames (Ok Moved) = Unit {0}
FeedCause frames (Ok Idle) = ⊥
FeedCause frames (Err bad.Lost) = ⊥
FeedCause frames (Err (bad.Frame b)) = frames.fault ≡ Some b
FeedCause frames (Err bad.NoMemory) = Unit {0}

-- what the deframer made of a piece: unless memory was wanting, it stands for the stream with the piece
pub record Deframes (old : Deframing) (piece : List ℕ) (new : Deframing) (r : Result Hop ProxyBad) : Type 0 where
  pub kind : new.place.kind ≡ old.place.kind
  pub stands : r ≢ Err bad.NoMemory → (stream : List ℕ) (given : List Msg) → Stands old stream given → Stands new (stream ++ piece) given
  pub lacking : r ≡ Err bad.NoMemory → new ≡ old
  pub cause : FeedCause new r

-- what a wire did with the room behind the bytes that were used
pub record Receives {I : Type 0} (seen : I → InSeen) (old : I) (room : List ℕ) (used : ℕ) (new : I) (room' : List ℕ) (r : Result Got Failed) : Type 0 where
  pub keeps : take used room' ≡ take used room
  pub long : length room' ≡ length room
  pub some : IfOk r (λ got. GaveSome got (length room' - used))
  pub given : (seen new).given ≡ option_map (given_after r (drop used room')) (seen old).given
  pub end : (r ≡ Ok got.End) ↔ IsTrue (seen new).ended
  pub not_yet : r ≡ Ok got.NotYet → Rose (seen old).idles (seen new).idles
  pub failed : OnErr r (Rose (seen old).faults (seen new).faults)

-- why a call to the wire answered so
abbrev pub AskCause : {I : Type 0} → (I → InSeen) → I → I → Deframing → List ℕ → Result Hop ProxyBad → Type 0
AskCause seen old new frames piece (Ok Moved) = 0 < length piece
AskCause seen old new frames piece (Ok Idle) = (piece ≡ []) × (IsTrue (seen new).ended → ⊥) × Rose (seen old).idles (seen new).idles
AskCause seen old new frames piece (Err bad.Lost) = Rose (seen old).faults (seen new).faults ⊎ IsTrue (seen new).ended
AskCause seen old new frames piece (Err (bad.Frame b)) = frames.fault ≡ Some b
AskCause seen old new frames piece (Err bad.NoMemory) = Unit {0}

-- what a call to the wire did: what it gave is kept, and the deframer has it, too
pub record Asked {I : Type 0} (seen : I → InSeen) (old : I) (kept : List ℕ) (frames : Deframing) (new : I) (kept' : List ℕ) (frames' : Deframing) (r : Result Hop ProxyBad) : Type 0 where
  pub piece : List ℕ
  pub longer : kept' ≡ kept ++ piece
  pub given : (seen new).given ≡ option_map (λ bytes. bytes ++ piece) (seen old).given
  pub at_end : IsTrue (seen old).ended → new ≡ old
  pub kind : frames'.place.kind ≡ frames.place.kind
  pub stands : r ≢ Err bad.NoMemory → (given : List Msg) → Stands frames kept given → Stands frames' kept' given
  pub lacking : r ≡ Err bad.NoMemory → frames' ≡ frames
  pub cause : AskCause seen old new frames' piece r

-- the cause of each answer of a turn that pushed so many messages and was given this piece
pub data InCause {I T : Type 0} (seen : I → InSeen) (refuses : T → T → Type 0) (old new : Incoming I) (far far' : T) (messages : ℕ) (piece : List ℕ) : Result Hop ProxyBad → Type 0 where
  it_moved : 0 < messages + length piece → InCause seen refuses old new far far' messages piece (Ok Moved)
  -- no message went, since none waits or the queue is full, and the wire had nothing to give yet
  it_idles : messages ≡ 0 → piece ≡ [] → (IsTrue (seen new.wire).ended → ⊥) → Rose (seen old.wire).idles (seen new.wire).idles → IsPushedOut old.frames old.held ⊎ refuses far far' → InCause seen refuses old new far far' messages piece (Ok Idle)
  it_failed : Rose (seen old.wire).faults (seen new.wire).faults → InCause seen refuses old new far far' messages piece (Err bad.Lost)
  it_ended : messages ≡ 0 → IsTrue (seen new.wire).ended → InCause seen refuses old new far far' messages piece (Err bad.Lost)
  it_is_bad : (b : FrameBad) → messages ≡ 0 → FirstFault new.frames.place.kind new.kept b → InCause seen refuses old new far far' messages piece (Err (bad.Frame b))
  it_lacks : InCause seen refuses old new far far' messages piece (Err bad.NoMemory)

-- what a turn did: messages that waited were pushed, and then the wire was asked once, but not after its end
pub record TurnedIn {I T : Type 0} (seen : I → InSeen) (kind : T → PortKind) (stands : T → List Msg → Type 0) (pushes : T → Msg → T → Type 0) (refuses : T → T → Type 0) (old new : Incoming I) (far far' : T) (r : Result Hop ProxyBad) : Type 0 where
  pub messages : List Msg
  pub piece : List ℕ
  pub last : T
  pub pushed : Ran pushes Never far messages last
  pub refused : (far' ≡ last) ⊎ refuses last far'
  pub kept : new.kept ≡ old.kept ++ piece
  pub given : (seen new.wire).given ≡ option_map (λ bytes. bytes ++ piece) (seen old.wire).given
  pub at_end : IsTrue (seen old.wire).ended → new.wire ≡ old.wire
  pub on : r ≢ Err bad.NoMemory → (pushed : List Msg) → Meets kind stands old.frames old.held old.kept far pushed → Meets kind stands new.frames new.held new.kept far' (pushed ++ messages)
  pub from_kept : (pushed : List Msg) → Meets kind stands old.frames old.held old.kept far pushed → ArePushedFrom old.frames.place.kind new.kept (pushed ++ messages) × stands far' (pushed ++ messages)
  pub cause : InCause seen refuses old new far far' (length messages) piece r

-- what is kept is what the wire tells that it gave
abbrev pub IsToldIn : {I : Type 0} → (I → InSeen) → Incoming I → Type 0
IsToldIn seen p = IfSome (seen p.wire).given (λ bytes. bytes ≡ p.kept)

-- a message was handed out to be pushed: whatever was pushed before, it is next in the stream
pub record IsNextOut (frames : Deframing) (held : Option Msg) (m : Msg) (frames' : Deframing) (held' : Option Msg) : Type 0 where
  pub none_held : held' ≡ None
  pub kind : frames'.place.kind ≡ frames.place.kind
  pub stands : (stream : List ℕ) (pushed : List Msg) → Carries frames held stream pushed → Stands frames' stream (pushed ++ m ∷ [])
