-- How numbers and addresses are written, and what digits are worth. `decimal n` and `digits 16 false n` of std have no leading zeros.
use Rattle.std.specs.Prelude.{ℕ, ◌-◌, ◌&&◌, nat_le, false, ◌/◌, ◌%◌, List, [], ◌∷◌, ◌++◌, slice_index, Option, Some, None, if◌then◌else◌}
use Rattle.std.specs.Fmt.{digits, digit_glyph}

-- `0x` and the lower-case hexadecimal digits
abbrev pub hexadecimal : ℕ → List ℕ
hexadecimal n = 48 ∷ (120 ∷ digits 16 false n)

-- a byte as two lower-case hexadecimal digits
abbrev pub hex_pair : ℕ → List ℕ
hex_pair byte = digit_glyph false (byte / 16) ∷ (digit_glyph false (byte % 16) ∷ [])

-- an address as six such pairs with colons between them
abbrev pub mac_text : List ℕ → List ℕ
mac_text mac = hex_pair (slice_index mac 0) ++ 58 ∷ hex_pair (slice_index mac 1) ++ 58 ∷ hex_pair (slice_index mac 2) ++ 58 ∷ hex_pair (slice_index mac 3) ++ 58 ∷ hex_pair (slice_index mac 4) ++ 58 ∷ hex_pair (slice_index mac 5)

-- what a digit is worth: `0` to `9`
abbrev pub decimal_value : ℕ → Option ℕ
decimal_value byte = if nat_le 48 byte && nat_le byte 57 then Some (byte - 48) else None

-- what a digit of base sixteen is worth: `0` to `9`, `a` to `f`, `A` to `F`
abbrev pub hexadecimal_value : ℕ → Option ℕ
hexadecimal_value byte =
    if nat_le 48 byte && nat_le byte 57 then Some (byte - 48)
    else if nat_le 97 byte && nat_le byte 102 then Some (byte - 87)
    else if nat_le 65 byte && nat_le byte 70 then Some (byte - 55)
    else None
