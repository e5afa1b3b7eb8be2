-- The bytes of a line, and the words among them.
use Rattle.std.specs.Prelude.{ℕ, Bool, false, ◌&&◌, ◌||◌, not, nat_le, ◌==◌, List, drop, slice_get, Option, Some, None}
use Rattle.std.specs.List.{prefix_len, take_while, list_all}
use Rattle.asm_syntax.specs.declared.class.Class.{Class}
use Rattle.asm_syntax.specs.declared.class.Class.TheVariants.{Blank, NameStart, Name, Mnemonic, Word, Plain, Code}

abbrev is_digit : ℕ → Bool
is_digit byte = nat_le 48 byte && nat_le byte 57

abbrev is_letter : ℕ → Bool
is_letter byte = (nat_le 65 byte && nat_le byte 90) || (nat_le 97 byte && nat_le byte 122)

-- letters and `_`
abbrev begins_name : ℕ → Bool
begins_name byte = is_letter byte || byte == 95

-- also digits
abbrev is_of_name : ℕ → Bool
is_of_name byte = begins_name byte || is_digit byte

-- also `.`
abbrev is_of_mnemonic : ℕ → Bool
is_of_mnemonic byte = is_of_name byte || byte == 46

-- also `-`
abbrev is_of_word : ℕ → Bool
is_of_word byte = is_of_mnemonic byte || byte == 45

-- `,`, `(` and `)`
abbrev is_mark : ℕ → Bool
is_mark byte = byte == 44 || byte == 40 || byte == 41

-- space and tab
abbrev is_blank : ℕ → Bool
is_blank byte = byte == 32 || byte == 9

-- the bytes of a class
abbrev pub is_in : Class → ℕ → Bool
is_in Blank byte = is_blank byte
is_in NameStart byte = begins_name byte
is_in Name byte = is_of_name byte
is_in Mnemonic byte = is_of_mnemonic byte
is_in Word byte = is_of_word byte
is_in Plain byte = is_of_word byte || is_mark byte || is_blank byte
is_in Code byte = not (byte == 35)

-- the bytes of a class at the beginning, as many as there are
abbrev pub front : Class → List ℕ → List ℕ
front class bytes = take_while (is_in class) bytes

-- and what follows them
abbrev pub behind : Class → List ℕ → List ℕ
behind class bytes = drop (prefix_len (is_in class) bytes) bytes

abbrev pub are_all : Class → List ℕ → Bool
are_all class bytes = list_all (is_in class) bytes

abbrev pub is_there_and : (ℕ → Bool) → Option ℕ → Bool
is_there_and passes None = false
is_there_and passes (Some byte) = passes byte

-- there is a first byte, and it passes
abbrev pub begins_with : (ℕ → Bool) → List ℕ → Bool
begins_with passes bytes = is_there_and passes (slice_get bytes 0)

-- letters, digits and `_`, not beginning with a digit
abbrev pub is_name : List ℕ → Bool
is_name word = begins_with (is_in NameStart) word && are_all Name word
