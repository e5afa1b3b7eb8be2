-- The results of computations, over whole numbers.
-- A word stands for a number below 2^32, or in two's complement for one from -2^31 to 2^31 - 1: its integer.
use Rattle.std.specs.Prelude.{ℕ, ◌+◌, ◌-◌, ◌*◌, ◌/◌, ◌%◌, ◌^◌, Bool, nat_lt, ◌==◌, if◌then◌else◌, ℤ, pos, ◌+ℤ◌, ◌-ℤ◌, ◌*ℤ◌, int_lt, int_div, int_rem}
use Rattle.std.specs.Int.{int_shr}
use Rattle.rv32_isa.specs.Bits.{signed, word_of}

abbrev pub integer : ℕ → ℤ
integer word = signed 32 word

abbrev pub one_if : Bool → ℕ
one_if b = if b then 1 else 0

unfoldable pub add : ℕ → ℕ → ℕ
add a b = (a + b) % 2 ^ 32

-- a number plus an immediate
unfoldable pub add_immediate : ℕ → ℤ → ℕ
add_immediate base imm = word_of (pos base +ℤ imm)

unfoldable pub subtract : ℕ → ℕ → ℕ
subtract a b = word_of (pos a -ℤ pos b)

unfoldable pub less : ℕ → ℕ → ℕ
less a b = one_if (int_lt (integer a) (integer b))

unfoldable pub less_immediate : ℕ → ℤ → ℕ
less_immediate a imm = one_if (int_lt (integer a) imm)

unfoldable pub less_unsigned : ℕ → ℕ → ℕ
less_unsigned a b = one_if (nat_lt a b)

-- a shift goes by the low five bits of its amount
unfoldable pub shift_left : ℕ → ℕ → ℕ
shift_left a amount = a * 2 ^ (amount % 32) % 2 ^ 32

unfoldable pub shift_right : ℕ → ℕ → ℕ
shift_right a amount = a / 2 ^ (amount % 32)

-- divided by a power of two, rounded down
unfoldable pub shift_right_arithmetic : ℕ → ℕ → ℕ
shift_right_arithmetic a amount = word_of (int_shr (integer a) (amount % 32))

unfoldable pub multiply : ℕ → ℕ → ℕ
multiply a b = a * b % 2 ^ 32

-- the high word: the product divided by 2^32, rounded down
unfoldable pub multiply_high : ℕ → ℕ → ℕ
multiply_high a b = word_of (int_shr (integer a *ℤ integer b) 32)

unfoldable pub multiply_high_mixed : ℕ → ℕ → ℕ
multiply_high_mixed a b = word_of (int_shr (integer a *ℤ pos b) 32)

unfoldable pub multiply_high_unsigned : ℕ → ℕ → ℕ
multiply_high_unsigned a b = a * b / 2 ^ 32

-- rounded towards zero; all ones by zero
unfoldable pub divide : ℕ → ℕ → ℕ
divide a b = if b == 0 then 2 ^ 32 - 1 else word_of (int_div (integer a) (integer b))

unfoldable pub divide_unsigned : ℕ → ℕ → ℕ
divide_unsigned a b = if b == 0 then 2 ^ 32 - 1 else a / b

-- of the dividend's sign; the dividend by zero
unfoldable pub remainder : ℕ → ℕ → ℕ
remainder a b = if b == 0 then a else word_of (int_rem (integer a) (integer b))

unfoldable pub remainder_unsigned : ℕ → ℕ → ℕ
remainder_unsigned a b = if b == 0 then a else a % b

-- the immediate of LUI and AUIPC, whose low twelve bits are 0
unfoldable pub upper : ℤ → ℕ
upper imm = word_of imm * 2 ^ 12 % 2 ^ 32
