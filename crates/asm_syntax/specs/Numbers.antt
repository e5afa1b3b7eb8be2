-- Numbers as the language writes them, and the range of each number's place.
use Rattle.std.specs.Prelude.{ℕ, ◌+◌, ◌-◌, ◌*◌, ◌^◌, min, Bool, ◌&&◌, ◌==◌, nat_lt, nat_le, ℤ, pos, negsuc, neg_ℤ, int_le, List, [], ◌∷◌, length, take, drop, codes, Option, Some, None, option_map, option_and_then, Result, Ok, Err, if◌then◌else◌}
use Rattle.std.specs.Str.{bytes_eq}
use Rattle.cs_base.specs.Texts.{hexadecimal_value}
use Rattle.asm_syntax.specs.declared.line.LineBad.{LineBad}
use Rattle.asm_syntax.specs.declared.line.LineBad.TheVariants.{BadLine, OutOfRange}
use Rattle.asm_syntax.specs.declared.range.Range.{Range}
use Rattle.asm_syntax.specs.declared.range.Range.TheVariants.{Immediate, Amount, Upper, CsrNumber, LoadImmediate, Word, Byte, Space}

-- a digit that is one of a base
abbrev pub below : ℕ → Option ℕ → Option ℕ
below base None = None
below base (Some digit) = if nat_lt digit base then Some digit else None

-- the number that digits of a base go on to spell
abbrev pub spelled_on : (base so_far : ℕ) → List ℕ → Option ℕ
spelled_on base so_far [] = Some so_far
spelled_on base so_far (byte ∷ bytes) =
    option_and_then (λ digit. spelled_on base (so_far * base + digit) bytes) (below base (hexadecimal_value byte))

-- the number that one digit or more spell
unfoldable pub spelled : (base : ℕ) → List ℕ → Option ℕ
spelled base bytes = if length bytes == 0 then None else spelled_on base 0 bytes

abbrev pub starts_with : List ℕ → List ℕ → Bool
starts_with prefix word = bytes_eq (take (length prefix) word) prefix

-- the number that a word is: `0x` and hexadecimal digits, or decimal digits with or without a `-`
unfoldable pub number_of : List ℕ → Option ℤ
number_of word =
    if starts_with (codes "0x") word then option_map pos (spelled 16 (drop 2 word))
    else if starts_with (codes "-") word then option_map (λ n. neg_ℤ (pos n)) (spelled 10 (drop 1 word))
    else option_map pos (spelled 10 word)

-- the least number of a range
abbrev pub least : Range → ℤ
least Immediate = negsuc 2047
least Amount = pos 0
least Upper = pos 0
least CsrNumber = pos 0
least LoadImmediate = negsuc 2147483647
least Word = negsuc 2147483647
least Byte = negsuc 127
least Space = pos 0

-- the greatest
abbrev pub greatest : Range → ℤ
greatest Immediate = pos 2047
greatest Amount = pos 31
greatest Upper = pos 0xfffff
greatest CsrNumber = pos 4095
greatest LoadImmediate = pos 4294967295
greatest Word = pos 4294967295
greatest Byte = pos 255
greatest Space = pos 16777216

-- how many bytes a statement takes whose number is outside
abbrev pub size_outside : Range → ℕ
size_outside Immediate = 4
size_outside Amount = 4
size_outside Upper = 4
size_outside CsrNumber = 4
size_outside LoadImmediate = 8
size_outside Word = 4
size_outside Byte = 1
size_outside Space = 0

-- the number that a place takes
abbrev pub in_range : Range → Option ℤ → Result ℤ LineBad
in_range range None = Err BadLine
in_range range (Some z) =
    if int_le (least range) z && int_le z (greatest range) then Ok z else Err (OutOfRange (size_outside range))

-- a number as far as it can matter
abbrev pub clipped : ℤ → ℤ
clipped (pos n) = pos (min n (2 ^ 33))
clipped (negsuc n) = negsuc (min n (2 ^ 33 - 1))
