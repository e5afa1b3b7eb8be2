-- The bytes of a message from a PCIe device, and why bytes are none.
use Rattle.std.specs.Prelude.{ℕ, ◌≡◌, Bool, not, ◌==◌, nat_lt, List, [], ◌∷◌, length, if◌then◌else◌, Option, Some, Result, MatchResult}
use Rattle.field_layout.specs.Layout.{Field, Entry, field_at, entry, number_in, is_zero_elsewhere, IsLaidOut, first_fault}
use Rattle.access_proto.specs.Lengths.{IsLength}
use Rattle.access_proto.specs.Spelling.{request_table, bytes_table, id_table}
use Rattle.access_proto.specs.declared.access.Access.{Access}
use Rattle.access_proto.specs.declared.access.Access.TheVariants as access
use Rattle.access_proto.specs.declared.access.Operation.{Operation}
use Rattle.access_proto.specs.declared.access.Operation.TheVariants as operation
use Rattle.pcie_proto.specs.declared.from_device.DevMsg.{DevMsg}
use Rattle.pcie_proto.specs.declared.from_device.DevMsg.TheVariants.{Read, Write, Level, ReadDone, WriteDone}
use Rattle.pcie_proto.specs.declared.pcie_bad.PcieBad.{PcieBad}
use Rattle.pcie_proto.specs.declared.pcie_bad.PcieBad.TheVariants.{UnknownType, LengthDiffers, FieldNotZero, NoMemory}
use Rattle.pcie_proto.specs.Refusals.{access_refusal}

-- the message that an access is
abbrev pub message_of : Access → DevMsg
message_of (access.Read id addr len) = Read id addr len
message_of (access.Write id addr bytes) = Write id addr bytes
message_of (access.ReadDone id bytes) = ReadDone id bytes
message_of (access.WriteDone id) = WriteDone id

-- the types of messages
abbrev pub type_at : Operation → ℕ
type_at operation.Read = 0x40
type_at operation.Write = 0x41
type_at operation.ReadDone = 0x43
type_at operation.WriteDone = 0x44

abbrev pub type_of : DevMsg → ℕ
type_of (Read id addr len) = 0x40
type_of (Write id addr bytes) = 0x41
type_of (Level high) = 0x42
type_of (ReadDone id bytes) = 0x43
type_of (WriteDone id) = 0x44

-- byte 0 of a level is 1 where the line is high, else 0
abbrev pub level_field : Field
level_field = field_at 0 1

abbrev pub level_number : Bool → ℕ
level_number high = if high then 1 else 0

abbrev pub level_table : ℕ → List Entry
level_table number = entry 0 1 number ∷ []

-- the numbers of a message at their places
abbrev pub table_of : DevMsg → List Entry
table_of (Read id addr len) = request_table id addr len
table_of (Write id addr bytes) = request_table id addr (length bytes)
table_of (Level high) = level_table (level_number high)
table_of (ReadDone id bytes) = bytes_table id (length bytes)
table_of (WriteDone id) = id_table id

abbrev pub payload_of : DevMsg → List ℕ
payload_of (Read id addr len) = []
payload_of (Write id addr bytes) = bytes
payload_of (Level high) = []
payload_of (ReadDone id bytes) = bytes
payload_of (WriteDone id) = []

-- the length of a message, where it has one, is within the limits
abbrev pub HasLength : DevMsg → Type 0
HasLength (Read id addr len) = IsLength len
HasLength (Write id addr bytes) = IsLength (length bytes)
HasLength (Level high) = Unit {0}
HasLength (ReadDone id bytes) = IsLength (length bytes)
HasLength (WriteDone id) = Unit {0}

-- a message of this type, with these fields and this payload, is this one
pub record IsSpelled (message : DevMsg) (ty : ℕ) (fields payload : List ℕ) : Type 0 where
  pub is_type : ty ≡ type_of message
  pub in_range : HasLength message
  pub laid_out : IsLaidOut 48 (table_of message) fields
  pub whole : payload ≡ payload_of message

-- the faults of a level in the order of the numbers of the refusals, each behind its test
abbrev pub level_faults : List ℕ → List ℕ → List (Bool × PcieBad)
level_faults fields payload =
    (not (length payload == 0), LengthDiffers)
    ∷ (nat_lt 1 (number_in fields level_field), FieldNotZero)
    ∷ (not (is_zero_elsewhere (level_field ∷ []) fields), FieldNotZero)
    ∷ []

-- the first fault, by the message's type
abbrev pub refusal : ℕ → List ℕ → List ℕ → Option PcieBad
refusal ty fields payload =
    if ty == 0x40 then access_refusal operation.Read fields payload
    else if ty == 0x41 then access_refusal operation.Write fields payload
    else if ty == 0x42 then first_fault (level_faults fields payload)
    else if ty == 0x43 then access_refusal operation.ReadDone fields payload
    else if ty == 0x44 then access_refusal operation.WriteDone fields payload
    else Some UnknownType

-- where the bytes are a message, that one is read, or memory is wanting
abbrev pub ReadsSpelled : Result DevMsg PcieBad → ℕ → List ℕ → List ℕ → Type 0
ReadsSpelled r ty fields payload =
    (message : DevMsg) → IsSpelled message ty fields payload
    → MatchResult r (λ found. found ≡ message) (λ bad. bad ≡ NoMemory)
