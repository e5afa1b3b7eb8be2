-- What a statement at an address stands for, where `place` gives the address of each label.
use Rattle.std.specs.Prelude.{ℕ, ◌+◌, ◌/◌, ◌%◌, ◌^◌, ℤ, pos, ◌-ℤ◌, List, [], ◌∷◌, replicate, Option}
use Rattle.std.specs.Int.{to_le_bytes, w32}
use Rattle.std.specs.List.{flat_map}
use Rattle.std.specs.Option.{option_map_or}
use Rattle.asm_syntax.specs.declared.statement.Condition.{Condition}
use Rattle.asm_syntax.specs.declared.statement.Condition.TheVariants.{Equal, NotEqual, Less, NotLess, LessUnsigned, NotLessUnsigned}
use Rattle.asm_syntax.specs.declared.statement.Statement.{Statement}
use Rattle.asm_syntax.specs.declared.statement.Statement.TheVariants.{Instruction, Branch, Jump, LoadImmediate, LoadAddress, Word, WordOf, Byte, Space}
use Rattle.rv32_isa.specs.Bits.{slice, signed, word_of}
use Rattle.rv32_isa.specs.Table.{encoded}
use Rattle.rv32_isa.specs.declared.instr.Instr.{Instr}
use Rattle.rv32_isa.specs.declared.instr.Instr.TheVariants.{Lui, Auipc, Jal, Beq, Bne, Blt, Bge, Bltu, Bgeu, Addi}

-- the way from an address to another
abbrev pub offset : (at to : ℕ) → ℤ
offset at to = pos to -ℤ pos at

-- a word as the sum of a multiple of 2^12, which LUI and AUIPC have room for, and of a signed number of 12 bits: the
-- number, and the factor, which has a carry where the number is negative
abbrev pub lower : ℕ → ℤ
lower word = signed 12 (slice word 11 0)

abbrev pub upper : ℕ → ℤ
upper word = pos ((word + 2 ^ 11) / 2 ^ 12 % 2 ^ 20)

abbrev pub branch : Condition → (rs1 rs2 : ℕ) → ℤ → Instr
branch Equal rs1 rs2 imm = Beq rs1 rs2 imm
branch NotEqual rs1 rs2 imm = Bne rs1 rs2 imm
branch Less rs1 rs2 imm = Blt rs1 rs2 imm
branch NotLess rs1 rs2 imm = Bge rs1 rs2 imm
branch LessUnsigned rs1 rs2 imm = Bltu rs1 rs2 imm
branch NotLessUnsigned rs1 rs2 imm = Bgeu rs1 rs2 imm

-- rd is the word
abbrev pub load_word : (rd word : ℕ) → List Instr
load_word rd word = Lui rd (upper word) ∷ Addi rd rd (lower word) ∷ []

-- rd is the pc plus the word
abbrev pub load_address : (rd word : ℕ) → List Instr
load_address rd word = Auipc rd (upper word) ∷ Addi rd rd (lower word) ∷ []

-- the instructions that a statement names; none where it has a label that no line has
abbrev pub instructions : (place : List ℕ → Option ℕ) (at : ℕ) → Statement → List Instr
instructions place at (Instruction instr) = instr ∷ []
instructions place at (Branch condition rs1 rs2 to) =
    option_map_or (λ target. branch condition rs1 rs2 (offset at target) ∷ []) (place to) []
instructions place at (Jump rd to) = option_map_or (λ target. Jal rd (offset at target) ∷ []) (place to) []
instructions place at (LoadImmediate rd value) = load_word rd (word_of value)
instructions place at (LoadAddress rd to) = option_map_or (λ target. load_address rd (word_of (offset at target))) (place to) []
instructions place at (Word value) = []
instructions place at (WordOf to) = []
instructions place at (Byte value) = []
instructions place at (Space count) = []

-- an instruction's word, the low byte first
abbrev pub instruction_bytes : Instr → List ℕ
instruction_bytes instr = option_map_or (to_le_bytes w32) (encoded instr) []

-- the bytes of a statement: those of its data, or of its instructions one behind another
abbrev pub bytes_of : (place : List ℕ → Option ℕ) (at : ℕ) → Statement → List ℕ
bytes_of place at (Word value) = to_le_bytes w32 (word_of value)
bytes_of place at (WordOf to) = option_map_or (λ target. to_le_bytes w32 (target % 2 ^ 32)) (place to) []
bytes_of place at (Byte value) = word_of value % 2 ^ 8 ∷ []
bytes_of place at (Space count) = replicate count 0
bytes_of place at statement = flat_map instruction_bytes (instructions place at statement)
