-- Bits of a word, and numbers in two's complement.
use Rattle.std.specs.Prelude.{ℕ, ◌+◌, ◌-◌, ◌/◌, ◌%◌, ◌^◌, Bool, false, nat_lt, if◌then◌else◌, ℤ, pos, negsuc}

-- bits `high` down to `low` of a word, as a number: word[high:low]
abbrev pub slice : ℕ → ℕ → ℕ → ℕ
slice word high low = word / 2 ^ low % 2 ^ (high + 1 - low)

-- the number that so many bits represent in two's complement
abbrev pub signed : ℕ → ℕ → ℤ
signed width bits = if nat_lt bits (2 ^ (width - 1)) then pos bits else negsuc (2 ^ width - 1 - bits)

-- the word of 32 bits that represents a whole number in two's complement: the number modulo 2^32
abbrev pub word_of : ℤ → ℕ
word_of (pos n) = n % 2 ^ 32
word_of (negsuc n) = 2 ^ 32 - 1 - n % 2 ^ 32

-- the number is one of those that so many bits represent in two's complement
abbrev pub is_signed : ℕ → ℤ → Bool
is_signed width (pos n) = nat_lt n (2 ^ (width - 1))
is_signed width (negsuc n) = nat_lt n (2 ^ (width - 1))

-- the number is one of those that so many bits represent without a sign
abbrev pub is_unsigned : ℕ → ℤ → Bool
is_unsigned width (pos n) = nat_lt n (2 ^ width)
is_unsigned width (negsuc n) = false
