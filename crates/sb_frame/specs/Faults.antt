-- Why no accepted frame can stand at a place of a byte stream.
use Rattle.std.specs.Prelude.{ℕ, ◌≡◌, ◌≤◌, Bool, true, false, not, nat_lt, List, [], ◌∷◌, ◌++◌, length, drop, if◌then◌else◌, Option, Some, None}
use Rattle.std.specs.List.{AllByRecursion}
use Rattle.cs_base.specs.declared.port_kind.PortKind.{PortKind}
use Rattle.sb_message.specs.declared.message.Msg.{Msg}
use Rattle.sb_message.specs.declared.msg_bad.MsgBad.{MsgBad}
use Rattle.sb_message.specs.declared.msg_bad.MsgBad.TheVariants as msg_bad
use Rattle.sb_message.specs.Spelling.{Spells, refusal}
use Rattle.sb_message.specs.Stream.{IsStream, is_intro}
use Rattle.sb_frame.specs.declared.frame_bad.FrameBad.{FrameBad}
use Rattle.sb_frame.specs.declared.frame_bad.FrameBad.TheVariants as bad
use Rattle.sb_frame.specs.Frames.{AreFrames, IsFrame, IsWhole, IsWrongLength}

-- a stream whose last timestamp is this, and none is after it
pub record EndsAt (kind : PortKind) (messages : List Msg) (at : ℕ) : Type 0 where
  pub stream : IsStream kind messages
  pub earlier : List Msg
  pub last : Msg
  pub parts : messages ≡ earlier ++ last ∷ []
  pub last_at : last.at ≡ at
  pub reached : AllByRecursion (λ (message : Msg). message.at ≤ at) messages

-- the stream rule so far, by the last timestamp: no message yet, or a stream that ends at it
abbrev pub KeepsRule : PortKind → List Msg → Option ℕ → Type 0
KeepsRule kind messages None = messages ≡ []
KeepsRule kind messages (Some at) = EndsAt kind messages at

-- what the stream rule says against a message behind the last timestamp, in a frame that starts here: it falls, or it
-- is the first and no introduction, or a later one
abbrev pub rule_fault : Option ℕ → ℕ → Msg → Option FrameBad
rule_fault None start m = if is_intro m.body then None else Some (bad.Order start)
rule_fault (Some last) start m =
    if nat_lt m.at last then Some (bad.Falls start)
    else if is_intro m.body then Some (bad.Order start)
    else None

-- the refusal of a message as one of its frame, which starts here: want of memory stays what it is
abbrev pub frame_refusal : ℕ → MsgBad → FrameBad
frame_refusal start msg_bad.NoMemory = bad.NoMemory
frame_refusal start msg_bad.Short = bad.Message start msg_bad.Short
frame_refusal start msg_bad.OwnerClear = bad.Message start msg_bad.OwnerClear
frame_refusal start msg_bad.TypeNotOfKind = bad.Message start msg_bad.TypeNotOfKind
frame_refusal start msg_bad.ReservedNotZero = bad.Message start msg_bad.ReservedNotZero
frame_refusal start (msg_bad.Upper why) = bad.Message start (msg_bad.Upper why)

-- the fault of a frame's message, behind the last timestamp
pub data IsBadMessage (kind : PortKind) (last : Option ℕ) (start : ℕ) (body : List ℕ) : FrameBad → Type 0 where
  no_message : (why : MsgBad) → refusal kind body ≡ Some why → IsBadMessage kind last start body (bad.Message start why)
  against_rule : (message : Msg) (b : FrameBad) → Spells kind message body → rule_fault last start message ≡ Some b → IsBadMessage kind last start body b

-- these bytes, which start here, are no accepted frame nor the beginning of one, as their last byte decides
pub data IsRefused (kind : PortKind) (last : Option ℕ) (start : ℕ) (begun : List ℕ) : FrameBad → Type 0 where
  no_length : IsWrongLength begun → IsRefused kind last start begun (bad.Length start)
  no_frame : (b : FrameBad) → IsWhole begun → IsBadMessage kind last start (drop 4 begun) b → IsRefused kind last start begun b

-- the first fault of a stream: up to a place it is the frames of messages that keep the stream rule, and what begins
-- there is refused
pub record FirstFault (kind : PortKind) (bytes : List ℕ) (b : FrameBad) : Type 0 where
  pub messages : List Msg
  pub last : Option ℕ
  pub before : List ℕ
  pub begun : List ℕ
  pub more : List ℕ
  pub parts : bytes ≡ before ++ (begun ++ more)
  pub frames : AreFrames kind messages before
  pub rule : KeepsRule kind messages last
  pub refused : IsRefused kind last (length before) begun b

-- a stream has no two first faults
abbrev pub HasOneFirstFault : PortKind → Type 0
HasOneFirstFault kind = (bytes : List ℕ) (a b : FrameBad) → FirstFault kind bytes a → FirstFault kind bytes b → a ≡ b
