-- The ones' complement sum of 16-bit words, as the Internet checksum has it (RFC 1071).
use Rattle.std.specs.Prelude.{ℕ, ◌+◌, ◌-◌, ◌*◌, ◌%◌, ◌==◌, List, [], ◌∷◌, if◌then◌else◌}

-- the plain sum of the big-endian words; an odd last byte is the high half of a word
abbrev pub word_sum : List ℕ → ℕ
word_sum [] = 0
word_sum (high ∷ []) = high * 256
word_sum (high ∷ low ∷ more) = high * 256 + low + word_sum more

-- a sum with its carries added back in: 1 to 65535 but for 0
abbrev pub folded : ℕ → ℕ
folded sum = if sum == 0 then 0 else 1 + (sum - 1) % 65535

abbrev pub ones_sum_of : List ℕ → ℕ
ones_sum_of bytes = folded (word_sum bytes)

-- the high bytes of words, and the low ones
abbrev pub high_bytes : List ℕ → List ℕ
high_bytes [] = []
high_bytes (high ∷ []) = high ∷ []
high_bytes (high ∷ low ∷ more) = high ∷ high_bytes more

abbrev pub low_bytes : List ℕ → List ℕ
low_bytes [] = []
low_bytes (high ∷ []) = []
low_bytes (high ∷ low ∷ more) = low ∷ low_bytes more
