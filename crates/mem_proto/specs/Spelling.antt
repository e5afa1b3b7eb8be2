-- The bytes of a message of a memory link, and why bytes are none.
use Rattle.std.specs.Prelude.{ℕ, ◌≡◌, ◌==◌, List, if◌then◌else◌, Option, Some, None, option_map, Result, MatchResult}
use Rattle.access_proto.specs.Spelling as access
use Rattle.access_proto.specs.declared.access.Access.{Access}
use Rattle.access_proto.specs.declared.access.Access.TheVariants as an_access
use Rattle.access_proto.specs.declared.access.Operation.{Operation}
use Rattle.access_proto.specs.declared.access.Operation.TheVariants as operation
use Rattle.mem_proto.specs.Refusals.{refused_as}
use Rattle.mem_proto.specs.declared.message.MemMsg.{MemMsg}
use Rattle.mem_proto.specs.declared.message.MemMsg.TheVariants.{Read, Write, ReadDone, WriteDone}
use Rattle.mem_proto.specs.declared.mem_bad.MemBad.{MemBad}
use Rattle.mem_proto.specs.declared.mem_bad.MemBad.TheVariants.{UnknownType, LengthRange, LengthDiffers, FieldNotZero, NoMemory}

-- a message as an access: its fields are those of one
abbrev pub access_of : MemMsg → Access
access_of (Read id addr len) = an_access.Read id addr len
access_of (Write id addr bytes) = an_access.Write id addr bytes
access_of (ReadDone id bytes) = an_access.ReadDone id bytes
access_of (WriteDone id) = an_access.WriteDone id

-- the types of messages
abbrev pub type_at : Operation → ℕ
type_at operation.Read = 0x50
type_at operation.Write = 0x51
type_at operation.ReadDone = 0x52
type_at operation.WriteDone = 0x53

abbrev pub type_of : MemMsg → ℕ
type_of message = type_at (access.operation_of (access_of message))

-- a message of this type, with these fields and this payload, is this one
pub record IsSpelled (message : MemMsg) (ty : ℕ) (fields payload : List ℕ) : Type 0 where
  pub is_type : ty ≡ type_of message
  pub access : access.IsSpelled (access_of message) fields payload

-- the first fault of an access, as that of the message
abbrev pub access_refusal : Operation → List ℕ → List ℕ → Option MemBad
access_refusal op fields payload = option_map refused_as (access.refusal op fields payload)

-- the first fault: an unknown type, else that of the access
abbrev pub refusal : ℕ → List ℕ → List ℕ → Option MemBad
refusal ty fields payload =
    if ty == 0x50 then access_refusal operation.Read fields payload
    else if ty == 0x51 then access_refusal operation.Write fields payload
    else if ty == 0x52 then access_refusal operation.ReadDone fields payload
    else if ty == 0x53 then access_refusal operation.WriteDone fields payload
    else Some UnknownType

-- the fault that a refusal names: want of memory is none
abbrev pub fault_of : MemBad → Option MemBad
fault_of NoMemory = None
fault_of UnknownType = Some UnknownType
fault_of LengthRange = Some LengthRange
fault_of LengthDiffers = Some LengthDiffers
fault_of FieldNotZero = Some FieldNotZero

-- where the bytes are a message, that one is read, or memory is wanting
abbrev pub ReadsSpelled : Result MemMsg MemBad → ℕ → List ℕ → List ℕ → Type 0
ReadsSpelled r ty fields payload =
    (message : MemMsg) → IsSpelled message ty fields payload
    → MatchResult r (λ found. found ≡ message) (λ bad. bad ≡ NoMemory)
