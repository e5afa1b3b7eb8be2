-- The frames of a byte stream: each is a length in four bytes, the lowest first, and a message of that length.
use Rattle.std.specs.Prelude.{ℕ, ◌≡◌, ◌≤◌, ◌<◌, ◌+◌, ◌&&◌, ◌⊎◌, Bool, true, false, nat_le, List, [], ◌∷◌, ◌++◌, length, drop}
use Rattle.field_layout.specs.Layout.{field_at, number_in}
use Rattle.cs_base.specs.declared.port_kind.PortKind.{PortKind}
use Rattle.sb_message.specs.declared.message.Msg.{Msg}
use Rattle.sb_message.specs.Spelling.{Spells}

-- the length that the first four bytes state, the lowest byte first
abbrev pub stated : List ℕ → ℕ
stated bytes = number_in bytes (field_at 0 4)

-- the lengths that messages have
abbrev pub is_length : ℕ → Bool
is_length n = nat_le 64 n && nat_le n 2112

-- one frame, to its last byte
pub record IsWhole (frame : List ℕ) : Type 0 where
  pub in_range : is_length (stated frame) ≡ true
  pub measured : length frame ≡ 4 + stated frame

-- a frame of which bytes are still to come
pub record IsShort (bytes : List ℕ) : Type 0 where
  pub in_range : is_length (stated bytes) ≡ true
  pub short : length bytes < 4 + stated bytes

-- bytes in which nothing is decided yet: they end before the length does, or before the frame does
abbrev pub IsOpen : List ℕ → Type 0
IsOpen bytes = (length bytes < 4) ⊎ IsShort bytes

-- four bytes that state what is the length of no message
pub record IsWrongLength (bytes : List ℕ) : Type 0 where
  pub four : length bytes ≡ 4
  pub out_of_range : is_length (stated bytes) ≡ false

-- the frame of a message, which a port of this kind may receive
pub record IsFrame (kind : PortKind) (message : Msg) (frame : List ℕ) : Type 0 where
  pub whole : IsWhole frame
  pub spelled : Spells kind message (drop 4 frame)

-- the frames of these messages, one after another
pub data AreFrames (kind : PortKind) : List Msg → List ℕ → Type 0 where
  none_yet : AreFrames kind [] []
  and_one : (messages : List Msg) (bytes : List ℕ) (message : Msg) (frame : List ℕ) → AreFrames kind messages bytes → IsFrame kind message frame → AreFrames kind (messages ++ message ∷ []) (bytes ++ frame)
