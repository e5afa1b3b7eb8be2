-- The bytes of an access as a message, and why bytes are none.
use Rattle.std.specs.Prelude.{ℕ, ◌≡◌, Bool, true, false, not, ◌&&◌, ◌==◌, List, [], ◌∷◌, length, Option, Some, None, Result, MatchResult}
use Rattle.field_layout.specs.Layout.{Field, Entry, field_at, entry, number_in, is_zero_elsewhere, IsLaidOut, first_fault}
use Rattle.access_proto.specs.Lengths.{IsLength, is_length}
use Rattle.access_proto.specs.declared.access.Access.{Access}
use Rattle.access_proto.specs.declared.access.Access.TheVariants.{Read, Write, ReadDone, WriteDone}
use Rattle.access_proto.specs.declared.access.Operation.{Operation}
use Rattle.access_proto.specs.declared.access.Operation.TheVariants as operation
use Rattle.access_proto.specs.declared.access_bad.AccessBad.{AccessBad}
use Rattle.access_proto.specs.declared.access_bad.AccessBad.TheVariants.{LengthRange, LengthDiffers, FieldNotZero, NoMemory}

abbrev pub operation_of : Access → Operation
operation_of (Read id addr len) = operation.Read
operation_of (Write id addr bytes) = operation.Write
operation_of (ReadDone id bytes) = operation.ReadDone
operation_of (WriteDone id) = operation.WriteDone

-- where the numbers of an access stand
abbrev pub id_field : Field
id_field = field_at 0 8

abbrev pub addr_field : Field
addr_field = field_at 8 8

abbrev pub length_field : Field
length_field = field_at 16 2

-- the numbers of a request, of a completion with bytes, and of one without, at their places
abbrev pub request_table : (id addr len : ℕ) → List Entry
request_table id addr len = entry 0 8 id ∷ entry 8 8 addr ∷ entry 16 2 len ∷ []

abbrev pub bytes_table : (id len : ℕ) → List Entry
bytes_table id len = entry 0 8 id ∷ entry 16 2 len ∷ []

abbrev pub id_table : (id : ℕ) → List Entry
id_table id = entry 0 8 id ∷ []

abbrev pub table_of : Access → List Entry
table_of (Read id addr len) = request_table id addr len
table_of (Write id addr bytes) = request_table id addr (length bytes)
table_of (ReadDone id bytes) = bytes_table id (length bytes)
table_of (WriteDone id) = id_table id

abbrev pub payload_of : Access → List ℕ
payload_of (Read id addr len) = []
payload_of (Write id addr bytes) = bytes
payload_of (ReadDone id bytes) = bytes
payload_of (WriteDone id) = []

-- the length of an access, where it has one, is within the limits
abbrev pub HasLength : Access → Type 0
HasLength (Read id addr len) = IsLength len
HasLength (Write id addr bytes) = IsLength (length bytes)
HasLength (ReadDone id bytes) = IsLength (length bytes)
HasLength (WriteDone id) = Unit {0}

-- these fields and this payload are the access
pub record IsSpelled (access : Access) (fields payload : List ℕ) : Type 0 where
  pub in_range : HasLength access
  pub laid_out : IsLaidOut 48 (table_of access) fields
  pub whole : payload ≡ payload_of access

-- the fields that an operation names
abbrev pub named_fields : Operation → List Field
named_fields operation.Read = id_field ∷ addr_field ∷ length_field ∷ []
named_fields operation.Write = id_field ∷ addr_field ∷ length_field ∷ []
named_fields operation.ReadDone = id_field ∷ length_field ∷ []
named_fields operation.WriteDone = id_field ∷ []

-- whether the fields' length is no length of an access; a write's completion has none
abbrev pub is_out_of_range : Operation → List ℕ → Bool
is_out_of_range operation.Read fields = not (is_length (number_in fields length_field))
is_out_of_range operation.Write fields = not (is_length (number_in fields length_field))
is_out_of_range operation.ReadDone fields = not (is_length (number_in fields length_field))
is_out_of_range operation.WriteDone fields = false

-- how many bytes of payload the fields tell
abbrev pub told_bytes : Operation → List ℕ → ℕ
told_bytes operation.Read fields = 0
told_bytes operation.Write fields = number_in fields length_field
told_bytes operation.ReadDone fields = number_in fields length_field
told_bytes operation.WriteDone fields = 0

-- the faults in the order of the numbers of the refusals, each behind its test
abbrev pub faults : Operation → List ℕ → List ℕ → List (Bool × AccessBad)
faults op fields payload =
    (is_out_of_range op fields, LengthRange)
    ∷ (not (length payload == told_bytes op fields), LengthDiffers)
    ∷ (not (is_zero_elsewhere (named_fields op) fields), FieldNotZero)
    ∷ []

-- the first fault that is there
abbrev pub refusal : Operation → List ℕ → List ℕ → Option AccessBad
refusal op fields payload = first_fault (faults op fields payload)

-- the fault that a refusal names: want of memory is none
abbrev pub fault_of : AccessBad → Option AccessBad
fault_of NoMemory = None
fault_of LengthRange = Some LengthRange
fault_of LengthDiffers = Some LengthDiffers
fault_of FieldNotZero = Some FieldNotZero

-- where the bytes are an access of this operation, that one is read, or memory is wanting
abbrev pub ReadsSpelled : Result Access AccessBad → Operation → List ℕ → List ℕ → Type 0
ReadsSpelled r op fields payload =
    (access : Access) → operation_of access ≡ op → IsSpelled access fields payload
    → MatchResult r (λ found. found ≡ access) (λ bad. bad ≡ NoMemory)
