-- What an access takes of a word.
use Rattle.std.specs.Prelude.{ℕ, ◌*◌, ◌%◌, ◌^◌, Bool, if◌then◌else◌}
use Rattle.rv32_isa.specs.Bits.{signed, word_of}

-- the number of the low bytes of a word
abbrev pub low_bytes : (size word : ℕ) → ℕ
low_bytes size word = word % 2 ^ (8 * size)

-- a register's value of a loaded one
unfoldable pub loaded : ℕ → Bool → ℕ → ℕ
loaded size is_signed word =
    if is_signed then word_of (signed (8 * size) (low_bytes size word)) else low_bytes size word
