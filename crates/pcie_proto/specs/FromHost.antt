-- The bytes of a message from a host to a PCIe device, and why bytes are none.
use Rattle.std.specs.Prelude.{ℕ, ◌≡◌, ◌==◌, List, [], length, if◌then◌else◌, Option, Some, Result, MatchResult}
use Rattle.field_layout.specs.Layout.{Field, Entry, field_at, number_in, IsLaidOut}
use Rattle.access_proto.specs.Lengths.{IsLength}
use Rattle.access_proto.specs.Spelling.{request_table, bytes_table, id_table}
use Rattle.access_proto.specs.declared.access.Access.{Access}
use Rattle.access_proto.specs.declared.access.Access.TheVariants as access
use Rattle.access_proto.specs.declared.access.Operation.{Operation}
use Rattle.access_proto.specs.declared.access.Operation.TheVariants as operation
use Rattle.pcie_proto.specs.declared.from_host.HostMsg.{HostMsg}
use Rattle.pcie_proto.specs.declared.from_host.HostMsg.TheVariants.{Read, Write, ReadDone, WriteDone}
use Rattle.pcie_proto.specs.declared.pcie_bad.PcieBad.{PcieBad}
use Rattle.pcie_proto.specs.declared.pcie_bad.PcieBad.TheVariants.{UnknownType, BadBar, NoMemory}
use Rattle.pcie_proto.specs.Refusals.{access_refusal}
use Rattle.pcie_proto.specs.Regions.{IsBar}

-- the message that an access is, a request at region 0
abbrev pub message_of : Access → HostMsg
message_of (access.Read id offset len) = Read id 0 offset len
message_of (access.Write id offset bytes) = Write id 0 offset bytes
message_of (access.ReadDone id bytes) = ReadDone id bytes
message_of (access.WriteDone id) = WriteDone id

-- the types of messages
abbrev pub type_at : Operation → ℕ
type_at operation.Read = 0x60
type_at operation.Write = 0x61
type_at operation.ReadDone = 0x62
type_at operation.WriteDone = 0x63

abbrev pub type_of : HostMsg → ℕ
type_of (Read id bar offset len) = 0x60
type_of (Write id bar offset bytes) = 0x61
type_of (ReadDone id bytes) = 0x62
type_of (WriteDone id) = 0x63

-- byte 18 of a request is the number of its region
abbrev pub bar_field : Field
bar_field = field_at 18 1

-- the region is 0, and so byte 18 is, as all bytes are that the table does not name
abbrev pub HasBar : HostMsg → Type 0
HasBar (Read id bar offset len) = IsBar bar
HasBar (Write id bar offset bytes) = IsBar bar
HasBar (ReadDone id bytes) = Unit {0}
HasBar (WriteDone id) = Unit {0}

-- the numbers of a message at their places
abbrev pub table_of : HostMsg → List Entry
table_of (Read id bar offset len) = request_table id offset len
table_of (Write id bar offset bytes) = request_table id offset (length bytes)
table_of (ReadDone id bytes) = bytes_table id (length bytes)
table_of (WriteDone id) = id_table id

abbrev pub payload_of : HostMsg → List ℕ
payload_of (Read id bar offset len) = []
payload_of (Write id bar offset bytes) = bytes
payload_of (ReadDone id bytes) = bytes
payload_of (WriteDone id) = []

-- the length of a message, where it has one, is within the limits
abbrev pub HasLength : HostMsg → Type 0
HasLength (Read id bar offset len) = IsLength len
HasLength (Write id bar offset bytes) = IsLength (length bytes)
HasLength (ReadDone id bytes) = IsLength (length bytes)
HasLength (WriteDone id) = Unit {0}

-- a message of this type, with these fields and this payload, is this one
pub record IsSpelled (message : HostMsg) (ty : ℕ) (fields payload : List ℕ) : Type 0 where
  pub is_type : ty ≡ type_of message
  pub is_bar : HasBar message
  pub in_range : HasLength message
  pub laid_out : IsLaidOut 48 (table_of message) fields
  pub whole : payload ≡ payload_of message

-- the first fault of a request: another region, else that of the access
abbrev pub request_refusal : Operation → List ℕ → List ℕ → Option PcieBad
request_refusal op fields payload =
    if number_in fields bar_field == 0 then access_refusal op fields payload else Some BadBar

-- the first fault, by the message's type
abbrev pub refusal : ℕ → List ℕ → List ℕ → Option PcieBad
refusal ty fields payload =
    if ty == 0x60 then request_refusal operation.Read fields payload
    else if ty == 0x61 then request_refusal operation.Write fields payload
    else if ty == 0x62 then access_refusal operation.ReadDone fields payload
    else if ty == 0x63 then access_refusal operation.WriteDone fields payload
    else Some UnknownType

-- where the bytes are a message, that one is read, or memory is wanting
abbrev pub ReadsSpelled : Result HostMsg PcieBad → ℕ → List ℕ → List ℕ → Type 0
ReadsSpelled r ty fields payload =
    (message : HostMsg) → IsSpelled message ty fields payload
    → MatchResult r (λ found. found ≡ message) (λ bad. bad ≡ NoMemory)
