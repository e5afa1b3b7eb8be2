-- The bytes of a message, and why bytes are none.
use Rattle.std.specs.Prelude.{ℕ, ◌≡◌, ◌≢◌, ◌+◌, ◌-◌, ◌*◌, ◌^◌, Bool, true, ◌&&◌, not, ◌==◌, nat_lt, List, [], ◌∷◌, ◌++◌, length, take, drop, slice_range, replicate, if◌then◌else◌, Option, Some, None, option_map, Result, MatchResult}
use Rattle.std.specs.Option.{option_or}
use Rattle.cs_base.specs.declared.port_kind.PortKind.{PortKind}
use Rattle.field_layout.specs.Layout.{IsLaidOut, Holds, entry, field_at, number_in, is_zero_elsewhere, first_fault}
use Rattle.eth_proto.specs.Spelling as eth
use Rattle.eth_proto.specs.declared.eth_bad.EthBad.TheVariants as eth_bad
use Rattle.mem_proto.specs.Spelling as mem
use Rattle.mem_proto.specs.declared.mem_bad.MemBad.TheVariants as mem_bad
use Rattle.pcie_proto.specs.FromDevice as dev
use Rattle.pcie_proto.specs.FromHost as host
use Rattle.pcie_proto.specs.declared.pcie_bad.PcieBad.TheVariants as pcie_bad
use Rattle.sb_intro.specs.Spelling as intro
use Rattle.sb_intro.specs.declared.intro_bad.IntroBad.TheVariants as intro_bad
use Rattle.sb_message.specs.declared.message.Body.{Body}
use Rattle.sb_message.specs.declared.message.Body.TheVariants as body
use Rattle.sb_message.specs.declared.message.Msg.{Msg}
use Rattle.sb_message.specs.declared.msg_bad.MsgBad.{MsgBad}
use Rattle.sb_message.specs.declared.msg_bad.MsgBad.TheVariants as msg_bad
use Rattle.sb_message.specs.declared.msg_bad.UpperBad.{UpperBad}
use Rattle.sb_message.specs.declared.msg_bad.UpperBad.TheVariants as upper
use Rattle.sb_message.specs.Receivable.{receivable}
use Rattle.sb_message.specs.Types.{is_type_of, is_dev_type, is_host_type, is_mem_type}

-- a null message has neither fields nor a payload
pub record IsSync (ty : ℕ) (fields payload : List ℕ) : Type 0 where
  pub is_type : ty ≡ 0x00
  pub laid_out : IsLaidOut 48 [] fields
  pub no_payload : payload ≡ []

-- the table of messages: a body by its type, its 48 bytes of fields and its payload, one case a row
abbrev pub SpellsBody : Body → ℕ → List ℕ → List ℕ → Type 0
SpellsBody body.Sync ty fields payload = IsSync ty fields payload
SpellsBody (body.Intro i) ty fields payload = intro.IsSpelled i ty fields payload
SpellsBody (body.Dev message) ty fields payload = dev.IsSpelled message ty fields payload
SpellsBody (body.Host message) ty fields payload = host.IsSpelled message ty fields payload
SpellsBody (body.Mem message) ty fields payload = mem.IsSpelled message ty fields payload
SpellsBody (body.Eth frame) ty fields payload = eth.IsSpelled frame ty fields payload

-- a message as bytes: the fields in bytes 0 to 47, the timestamp in 48 to 55, zeros in 56 to 62, the owner's bit and the type in 63, and then the payload
pub record IsSpelled (message : Msg) (bytes : List ℕ) : Type 0 where
  pub ty : ℕ
  pub row : SpellsBody message.body ty (take 48 bytes) (drop 64 bytes)
  pub timestamp : Holds bytes (entry 48 8 message.at)
  pub reserved : slice_range bytes 56 63 ≡ replicate 7 0
  pub owned : Holds bytes (entry 63 1 (128 + ty))

-- the bytes are the message, which a port of this kind may receive
pub record Spells (kind : PortKind) (message : Msg) (bytes : List ℕ) : Type 0 where
  pub receivable : receivable kind message.body ≡ true
  pub spelled : IsSpelled message bytes

-- new is old with a message at its end
pub record AppendsMessage (message : Msg) (old new : List ℕ) : Type 0 where
  pub bytes : List ℕ
  pub spelled : IsSpelled message bytes
  pub appended : new ≡ old ++ bytes

-- the fault of a null message: a byte of its fields that isn't zero, or a payload
abbrev pub sync_refusal : List ℕ → List ℕ → Option UpperBad
sync_refusal fields payload = if is_zero_elsewhere [] fields && (length payload == 0) then None else Some upper.Sync

-- the fault of the body, by the message's type
abbrev pub body_refusal : ℕ → List ℕ → List ℕ → Option UpperBad
body_refusal ty fields payload =
    if ty == 0x00 then sync_refusal fields payload
    else if ty == 0x01 then option_map upper.Intro (intro.refusal 0x01 fields payload)
    else if is_dev_type ty then option_map upper.Pcie (dev.refusal ty fields payload)
    else if is_host_type ty then option_map upper.Pcie (host.refusal ty fields payload)
    else if is_mem_type ty then option_map upper.Mem (mem.refusal ty fields payload)
    else option_map upper.Eth (eth.refusal 0x70 fields payload)

-- the fault of the body, as that of the message
abbrev pub upper_refusal : ℕ → List ℕ → List ℕ → Option MsgBad
upper_refusal ty fields payload = option_map msg_bad.Upper (body_refusal ty fields payload)

-- the number of byte 63: the owner's bit, worth 128, and the type
abbrev pub last_of : List ℕ → ℕ
last_of bytes = number_in bytes (field_at 63 1)

abbrev pub type_of : List ℕ → ℕ
type_of bytes = last_of bytes - 128

-- the faults of the header in the order of the numbers of the refusals, each behind its test
abbrev pub header_faults : PortKind → List ℕ → List (Bool × MsgBad)
header_faults kind bytes =
    (nat_lt (length bytes) 64, msg_bad.Short)
    ∷ (nat_lt (last_of bytes) 128, msg_bad.OwnerClear)
    ∷ (not (is_type_of kind (type_of bytes)), msg_bad.TypeNotOfKind)
    ∷ (not (is_zero_elsewhere [] (slice_range bytes 56 63)), msg_bad.ReservedNotZero)
    ∷ []

-- the first fault of the message: the header's, else the body's
abbrev pub refusal : PortKind → List ℕ → Option MsgBad
refusal kind bytes = option_or (first_fault (header_faults kind bytes)) (upper_refusal (type_of bytes) (take 48 bytes) (drop 64 bytes))

-- the fault that a refusal names: want of memory is none
abbrev pub fault_of : MsgBad → Option MsgBad
fault_of msg_bad.NoMemory = None
fault_of msg_bad.Short = Some msg_bad.Short
fault_of msg_bad.OwnerClear = Some msg_bad.OwnerClear
fault_of msg_bad.TypeNotOfKind = Some msg_bad.TypeNotOfKind
fault_of msg_bad.ReservedNotZero = Some msg_bad.ReservedNotZero
fault_of (msg_bad.Upper bad) = Some (msg_bad.Upper bad)

-- the refusal of a body names a fault of its bytes: neither an unknown type nor want of memory
abbrev pub NamesFault : MsgBad → Type 0
NamesFault (msg_bad.Upper (upper.Intro bad)) = bad ≢ intro_bad.UnknownType
NamesFault (msg_bad.Upper (upper.Pcie bad)) = (bad ≢ pcie_bad.UnknownType) × (bad ≢ pcie_bad.NoMemory)
NamesFault (msg_bad.Upper (upper.Mem bad)) = (bad ≢ mem_bad.UnknownType) × (bad ≢ mem_bad.NoMemory)
NamesFault (msg_bad.Upper (upper.Eth bad)) = (bad ≢ eth_bad.UnknownType) × (bad ≢ eth_bad.NoMemory)
NamesFault (msg_bad.Upper upper.Sync) = Unit {0}
NamesFault msg_bad.Short = Unit {0}
NamesFault msg_bad.OwnerClear = Unit {0}
NamesFault msg_bad.TypeNotOfKind = Unit {0}
NamesFault msg_bad.ReservedNotZero = Unit {0}
NamesFault msg_bad.NoMemory = Unit {0}

-- the byte of the owner's bit and the type, at the top of a word of 64 bits
abbrev pub word_of : ℕ → Bool → ℕ
word_of ty consumer = (ty + (if consumer then 128 else 0)) * 2 ^ 56

-- where the bytes are a message that the kind may receive, that one is decoded, or memory is wanting
abbrev pub ReadsSpelled : Result Msg MsgBad → PortKind → List ℕ → Type 0
ReadsSpelled r kind bytes =
    (message : Msg) → Spells kind message bytes
    → MatchResult r (λ found. found ≡ message) (λ bad. bad ≡ msg_bad.NoMemory)

-- each message has one spelling
abbrev pub HaveOneSpelling : PortKind → Type 0
HaveOneSpelling kind = (message : Msg) (a b : List ℕ) → Spells kind message a → Spells kind message b → a ≡ b

-- no bytes spell two messages
abbrev pub AreOneMessage : PortKind → Type 0
AreOneMessage kind = (m n : Msg) (bytes : List ℕ) → Spells kind m bytes → Spells kind n bytes → m ≡ n
