-- The instruction formats: the fields that each reads from a word, and the word that it makes of them.
use Rattle.std.specs.Prelude.{ℕ, ◌+◌, ◌*◌, ◌%◌, ◌^◌, Bool, ◌&&◌, nat_lt, ◌==◌, if◌then◌else◌, ℤ, pos, Option, Some, None}
use Rattle.rv32_isa.specs.Bits.{slice, signed, word_of, is_signed, is_unsigned}

-- ---- the fields of a word

abbrev pub opcode_in : ℕ → ℕ
opcode_in word = slice word 6 0

abbrev pub rd_in : ℕ → ℕ
rd_in word = slice word 11 7

abbrev pub funct3_in : ℕ → ℕ
funct3_in word = slice word 14 12

abbrev pub rs1_in : ℕ → ℕ
rs1_in word = slice word 19 15

abbrev pub rs2_in : ℕ → ℕ
rs2_in word = slice word 24 20

abbrev pub funct7_in : ℕ → ℕ
funct7_in word = slice word 31 25

abbrev pub csr_in : ℕ → ℕ
csr_in word = slice word 31 20

-- what a fence carries beside its opcode and funct3, at its place in the word
abbrev pub fence_bits_in : ℕ → ℕ
fence_bits_in word = slice word 31 15 * 2 ^ 15 + slice word 11 7 * 2 ^ 7

abbrev pub i_immediate_in : ℕ → ℤ
i_immediate_in word = signed 12 (slice word 31 20)

abbrev pub s_immediate_in : ℕ → ℤ
s_immediate_in word = signed 12 (slice word 31 25 * 2 ^ 5 + slice word 11 7)

abbrev pub b_immediate_in : ℕ → ℤ
b_immediate_in word =
    signed 13 (slice word 31 31 * 2 ^ 12 + slice word 7 7 * 2 ^ 11 + slice word 30 25 * 2 ^ 5 + slice word 11 8 * 2)

abbrev pub u_immediate_in : ℕ → ℤ
u_immediate_in word = pos (slice word 31 12)

abbrev pub j_immediate_in : ℕ → ℤ
j_immediate_in word =
    signed 21 (slice word 31 31 * 2 ^ 20 + slice word 19 12 * 2 ^ 12 + slice word 20 20 * 2 ^ 11 + slice word 30 21 * 2)

-- the amount of a shift, and the immediate of a CSR instruction
abbrev pub shift_amount_in : ℕ → ℤ
shift_amount_in word = pos (slice word 24 20)

abbrev pub csr_immediate_in : ℕ → ℤ
csr_immediate_in word = pos (slice word 19 15)

-- ---- the words of each format; none where a field is out of its range

abbrev pub is_register : ℕ → Bool
is_register n = nat_lt n 32

-- a branch or jump goes by a multiple of two bytes
abbrev pub is_even : ℤ → Bool
is_even z = word_of z % 2 == 0

abbrev pub encoded_if : Bool → ℕ → Option ℕ
encoded_if in_range word = if in_range then Some word else None

-- register and register
abbrev pub r_type : (opcode funct3 funct7 rd rs1 rs2 : ℕ) → Option ℕ
r_type opcode funct3 funct7 rd rs1 rs2 =
    encoded_if (is_register rd && is_register rs1 && is_register rs2)
    (funct7 * 2 ^ 25 + rs2 * 2 ^ 20 + rs1 * 2 ^ 15 + funct3 * 2 ^ 12 + rd * 2 ^ 7 + opcode)

-- register and immediate
abbrev pub i_type : (opcode funct3 rd rs1 : ℕ) → ℤ → Option ℕ
i_type opcode funct3 rd rs1 imm =
    encoded_if (is_register rd && is_register rs1 && is_signed 12 imm)
    (slice (word_of imm) 11 0 * 2 ^ 20 + rs1 * 2 ^ 15 + funct3 * 2 ^ 12 + rd * 2 ^ 7 + opcode)

-- a shift by an immediate amount
abbrev pub shift_type : (opcode funct3 funct7 rd rs1 : ℕ) → ℤ → Option ℕ
shift_type opcode funct3 funct7 rd rs1 imm =
    encoded_if (is_register rd && is_register rs1 && is_unsigned 5 imm)
    (funct7 * 2 ^ 25 + slice (word_of imm) 4 0 * 2 ^ 20 + rs1 * 2 ^ 15 + funct3 * 2 ^ 12 + rd * 2 ^ 7 + opcode)

-- store
abbrev pub s_type : (opcode funct3 rs1 rs2 : ℕ) → ℤ → Option ℕ
s_type opcode funct3 rs1 rs2 imm =
    encoded_if (is_register rs1 && is_register rs2 && is_signed 12 imm)
    (slice (word_of imm) 11 5 * 2 ^ 25 + rs2 * 2 ^ 20 + rs1 * 2 ^ 15 + funct3 * 2 ^ 12 + slice (word_of imm) 4 0 * 2 ^ 7
    + opcode)

-- branch
abbrev pub b_type : (opcode funct3 rs1 rs2 : ℕ) → ℤ → Option ℕ
b_type opcode funct3 rs1 rs2 imm =
    encoded_if (is_register rs1 && is_register rs2 && is_signed 13 imm && is_even imm)
    (slice (word_of imm) 12 12 * 2 ^ 31 + slice (word_of imm) 10 5 * 2 ^ 25 + rs2 * 2 ^ 20 + rs1 * 2 ^ 15
    + funct3 * 2 ^ 12 + slice (word_of imm) 4 1 * 2 ^ 8 + slice (word_of imm) 11 11 * 2 ^ 7 + opcode)

-- upper immediate
abbrev pub u_type : (opcode rd : ℕ) → ℤ → Option ℕ
u_type opcode rd imm =
    encoded_if (is_register rd && is_unsigned 20 imm)
    (slice (word_of imm) 19 0 * 2 ^ 12 + rd * 2 ^ 7 + opcode)

-- jump
abbrev pub j_type : (opcode rd : ℕ) → ℤ → Option ℕ
j_type opcode rd imm =
    encoded_if (is_register rd && is_signed 21 imm && is_even imm)
    (slice (word_of imm) 20 20 * 2 ^ 31 + slice (word_of imm) 10 1 * 2 ^ 21 + slice (word_of imm) 11 11 * 2 ^ 20
    + slice (word_of imm) 19 12 * 2 ^ 12 + rd * 2 ^ 7 + opcode)

-- a CSR instruction whose source is a register
abbrev pub csr_type : (opcode funct3 rd rs1 csr : ℕ) → Option ℕ
csr_type opcode funct3 rd rs1 csr =
    encoded_if (is_register rd && is_register rs1 && nat_lt csr 4096)
    (csr * 2 ^ 20 + rs1 * 2 ^ 15 + funct3 * 2 ^ 12 + rd * 2 ^ 7 + opcode)

-- a CSR instruction whose source is an immediate, in the place of rs1
abbrev pub csr_immediate_type : (opcode funct3 rd : ℕ) → ℤ → ℕ → Option ℕ
csr_immediate_type opcode funct3 rd imm csr =
    encoded_if (is_register rd && is_unsigned 5 imm && nat_lt csr 4096)
    (csr * 2 ^ 20 + slice (word_of imm) 4 0 * 2 ^ 15 + funct3 * 2 ^ 12 + rd * 2 ^ 7 + opcode)

-- a fence, whose other bits are free
abbrev pub fence_type : (opcode funct3 bits : ℕ) → Option ℕ
fence_type opcode funct3 bits =
    encoded_if (nat_lt bits (2 ^ 32) && slice bits 14 12 == 0 && slice bits 6 0 == 0)
    (bits + funct3 * 2 ^ 12 + opcode)
