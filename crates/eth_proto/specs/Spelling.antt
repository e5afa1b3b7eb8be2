-- The bytes of an Ethernet frame as a message, and why bytes are none.
use Rattle.std.specs.Prelude.{ℕ, ◌≡◌, Bool, not, ◌==◌, nat_lt, List, [], ◌∷◌, length, Option, Some, None, Result, MatchResult}
use Rattle.field_layout.specs.Layout.{Field, Entry, field_at, entry, number_in, is_zero_elsewhere, IsLaidOut, first_fault}
use Rattle.eth_proto.specs.Frame.{IsFrame}
use Rattle.eth_proto.specs.declared.eth_bad.EthBad.{EthBad}
use Rattle.eth_proto.specs.declared.eth_bad.EthBad.TheVariants.{UnknownType, TooShort, TooLong, LengthDiffers, FieldNotZero, NoMemory}

-- the one field of a frame is its length
abbrev pub length_field : Field
length_field = field_at 0 2

abbrev pub table_of : ℕ → List Entry
table_of len = entry 0 2 len ∷ []

-- a message of this type, with these fields and this payload, is the frame
pub record IsSpelled (frame : List ℕ) (ty : ℕ) (fields payload : List ℕ) : Type 0 where
  pub is_frame : IsFrame frame
  pub is_type : ty ≡ 0x70
  pub laid_out : IsLaidOut 48 (table_of (length frame)) fields
  pub whole : payload ≡ frame

-- the faults in the order of the numbers of the refusals, each behind its test
abbrev pub faults : ℕ → List ℕ → List ℕ → List (Bool × EthBad)
faults ty fields payload =
    (not (ty == 0x70), UnknownType)
    ∷ (nat_lt (length payload) 14, TooShort)
    ∷ (nat_lt 1514 (length payload), TooLong)
    ∷ (not (number_in fields length_field == length payload), LengthDiffers)
    ∷ (not (is_zero_elsewhere (length_field ∷ []) fields), FieldNotZero)
    ∷ []

-- the first fault that is there
abbrev pub refusal : ℕ → List ℕ → List ℕ → Option EthBad
refusal ty fields payload = first_fault (faults ty fields payload)

-- the fault that a refusal names: want of memory is none
abbrev pub fault_of : EthBad → Option EthBad
fault_of NoMemory = None
fault_of UnknownType = Some UnknownType
fault_of TooShort = Some TooShort
fault_of TooLong = Some TooLong
fault_of LengthDiffers = Some LengthDiffers
fault_of FieldNotZero = Some FieldNotZero

-- where the bytes are a frame, that one is read, or memory is wanting
abbrev pub ReadsSpelled : Result (List ℕ) EthBad → ℕ → List ℕ → List ℕ → Type 0
ReadsSpelled r ty fields payload =
    (frame : List ℕ) → IsSpelled frame ty fields payload
    → MatchResult r (λ message. message ≡ frame) (λ bad. bad ≡ NoMemory)
