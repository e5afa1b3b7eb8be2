-- Numbers at fixed places of a header, lowest byte first, with zeros at all other places.
use Rattle.std.specs.Prelude.{ℕ, ◌≡◌, ◌+◌, ◌^◌, ◌<◌, Bool, true, false, ◌&&◌, ◌||◌, ◌==◌, nat_le, nat_lt, List, [], ◌∷◌, ◌++◌, map, length, take, drop, slice_range, if◌then◌else◌, Option, Some, None, option_and_then, Result}
use Rattle.std.specs.Int.{w64, from_le_bytes, bytes_low_first}
use Rattle.std.specs.List.{AllByRecursion}
use Rattle.std.specs.Result.{result_err}

-- where a number stands: from this byte of the header on, so many bytes
pub record Field : Type 0 where
  pub place : ℕ
  pub width : ℕ

abbrev pub field_at : ℕ → ℕ → Field
field_at place width = record { place = place; width = width }

-- a field with the number that it holds
pub record Entry : Type 0 where
  pub field : Field
  pub value : ℕ

abbrev pub entry : (place width value : ℕ) → Entry
entry place width value = record { field = field_at place width; value = value }

-- the bytes of a field
abbrev pub bytes_in : List ℕ → Field → List ℕ
bytes_in bytes field = slice_range bytes field.place (field.place + field.width)

-- the number that stands in a field of at most eight bytes
unfoldable pub number_in : List ℕ → Field → ℕ
number_in bytes field = from_le_bytes w64 (bytes_in bytes field)

-- the number fits its field, and its bytes stand there, the lowest first
pub record Holds (bytes : List ℕ) (e : Entry) : Type 0 where
  pub fits : e.value < 256 ^ e.field.width
  pub written : bytes_in bytes e.field ≡ bytes_low_first 0 e.field.width e.value

-- whether the byte at a place belongs to a field
abbrev pub has_byte : Field → ℕ → Bool
has_byte field k = nat_le field.place k && nat_lt k (field.place + field.width)

-- whether it belongs to one of the fields
abbrev pub is_named : List Field → ℕ → Bool
is_named [] k = false
is_named (field ∷ fields) k = has_byte field k || is_named fields k

-- whether all bytes from number k on are zero but those of the fields
abbrev pub is_zero_from : List Field → ℕ → List ℕ → Bool
is_zero_from fields k [] = true
is_zero_from fields k (byte ∷ bytes) = (is_named fields k || (byte == 0)) && is_zero_from fields (k + 1) bytes

-- whether all bytes are zero but those of the fields
unfoldable pub is_zero_elsewhere : List Field → List ℕ → Bool
is_zero_elsewhere fields bytes = is_zero_from fields 0 bytes

abbrev pub fields_of : List Entry → List Field
fields_of table = map (λ (e : Entry). e.field) table

-- a header of so many bytes: each field holds its number, and every other byte is zero
pub record IsLaidOut (size : ℕ) (table : List Entry) (bytes : List ℕ) : Type 0 where
  pub whole : length bytes ≡ size
  pub held : AllByRecursion (Holds bytes) table
  pub others : is_zero_elsewhere (fields_of table) bytes ≡ true

-- whether two fields have no byte in common, and a field has none with any of these
abbrev pub is_apart : Field → Field → Bool
is_apart x y = nat_le (x.place + x.width) y.place || nat_le (y.place + y.width) x.place

abbrev pub is_apart_from : List Field → Field → Bool
is_apart_from [] y = true
is_apart_from (x ∷ fields) y = is_apart x y && is_apart_from fields y

-- the bytes with others written over them from a place on
abbrev pub overwritten : List ℕ → ℕ → List ℕ → List ℕ
overwritten bytes place new = take place bytes ++ (new ++ drop (place + length new) bytes)

-- the first of some faults that is there, in the order of their numbers
abbrev pub first_fault : {E : Type 0} → List (Bool × E) → Option E
first_fault [] = None
first_fault (fault ∷ faults) = if fault.0 then Some fault.1 else first_fault faults

-- the fault that a reading names by its refusal, if any: some refusals name none
abbrev pub fault_named : {A E : Type 0} → (E → Option E) → Result A E → Option E
fault_named fault_of r = option_and_then fault_of (result_err r)
