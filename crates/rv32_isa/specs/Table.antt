-- The instructions of RV32I, M, Zicsr and Zifencei, with MRET and WFI: the pattern of each one's word.
use Rattle.std.specs.Prelude.{ℕ, List, [], ◌∷◌, ℤ, if◌then◌else◌, ◌==◌, Option, Some, None}
use Rattle.rv32_isa.specs.Formats.{opcode_in, rd_in, funct3_in, rs1_in, rs2_in, funct7_in, csr_in, fence_bits_in, i_immediate_in, s_immediate_in, b_immediate_in, u_immediate_in, j_immediate_in, shift_amount_in, csr_immediate_in, r_type, i_type, shift_type, s_type, b_type, u_type, j_type, csr_type, csr_immediate_type, fence_type}
use Rattle.rv32_isa.specs.declared.instr.Instr.{Instr}
use Rattle.rv32_isa.specs.declared.instr.Instr.TheVariants.{Lui, Auipc, Jal, Jalr, Beq, Bne, Blt, Bge, Bltu, Bgeu, Lb, Lh, Lw, Lbu, Lhu, Sb, Sh, Sw, Addi, Slti, Sltiu, Xori, Ori, Andi, Slli, Srli, Srai, Add, Sub, Sll, Slt, Sltu, Xor, Srl, Sra, Or, And, Mul, Mulh, Mulhsu, Mulhu, Div, Divu, Rem, Remu, Fence, FenceI, Ecall, Ebreak, Mret, Wfi, Csrrw, Csrrs, Csrrc, Csrrwi, Csrrsi, Csrrci, Illegal}

-- ---- from an instruction to its word

-- the computations
unfoldable pub encoded_computation : Instr → Option ℕ
encoded_computation (Addi rd rs1 imm) = i_type 0b0010011 0b000 rd rs1 imm
encoded_computation (Slti rd rs1 imm) = i_type 0b0010011 0b010 rd rs1 imm
encoded_computation (Sltiu rd rs1 imm) = i_type 0b0010011 0b011 rd rs1 imm
encoded_computation (Xori rd rs1 imm) = i_type 0b0010011 0b100 rd rs1 imm
encoded_computation (Ori rd rs1 imm) = i_type 0b0010011 0b110 rd rs1 imm
encoded_computation (Andi rd rs1 imm) = i_type 0b0010011 0b111 rd rs1 imm
encoded_computation (Slli rd rs1 imm) = shift_type 0b0010011 0b001 0b0000000 rd rs1 imm
encoded_computation (Srli rd rs1 imm) = shift_type 0b0010011 0b101 0b0000000 rd rs1 imm
encoded_computation (Srai rd rs1 imm) = shift_type 0b0010011 0b101 0b0100000 rd rs1 imm
encoded_computation (Add rd rs1 rs2) = r_type 0b0110011 0b000 0b0000000 rd rs1 rs2
encoded_computation (Sub rd rs1 rs2) = r_type 0b0110011 0b000 0b0100000 rd rs1 rs2
encoded_computation (Sll rd rs1 rs2) = r_type 0b0110011 0b001 0b0000000 rd rs1 rs2
encoded_computation (Slt rd rs1 rs2) = r_type 0b0110011 0b010 0b0000000 rd rs1 rs2
encoded_computation (Sltu rd rs1 rs2) = r_type 0b0110011 0b011 0b0000000 rd rs1 rs2
encoded_computation (Xor rd rs1 rs2) = r_type 0b0110011 0b100 0b0000000 rd rs1 rs2
encoded_computation (Srl rd rs1 rs2) = r_type 0b0110011 0b101 0b0000000 rd rs1 rs2
encoded_computation (Sra rd rs1 rs2) = r_type 0b0110011 0b101 0b0100000 rd rs1 rs2
encoded_computation (Or rd rs1 rs2) = r_type 0b0110011 0b110 0b0000000 rd rs1 rs2
encoded_computation (And rd rs1 rs2) = r_type 0b0110011 0b111 0b0000000 rd rs1 rs2
encoded_computation (Mul rd rs1 rs2) = r_type 0b0110011 0b000 0b0000001 rd rs1 rs2
encoded_computation (Mulh rd rs1 rs2) = r_type 0b0110011 0b001 0b0000001 rd rs1 rs2
encoded_computation (Mulhsu rd rs1 rs2) = r_type 0b0110011 0b010 0b0000001 rd rs1 rs2
encoded_computation (Mulhu rd rs1 rs2) = r_type 0b0110011 0b011 0b0000001 rd rs1 rs2
encoded_computation (Div rd rs1 rs2) = r_type 0b0110011 0b100 0b0000001 rd rs1 rs2
encoded_computation (Divu rd rs1 rs2) = r_type 0b0110011 0b101 0b0000001 rd rs1 rs2
encoded_computation (Rem rd rs1 rs2) = r_type 0b0110011 0b110 0b0000001 rd rs1 rs2
encoded_computation (Remu rd rs1 rs2) = r_type 0b0110011 0b111 0b0000001 rd rs1 rs2
encoded_computation _ = None

-- each instruction
unfoldable pub encoded : Instr → Option ℕ
encoded (Csrrw rd rs1 csr) = csr_type 0b1110011 0b001 rd rs1 csr
encoded (Csrrs rd rs1 csr) = csr_type 0b1110011 0b010 rd rs1 csr
encoded (Csrrc rd rs1 csr) = csr_type 0b1110011 0b011 rd rs1 csr
encoded (Lui rd imm) = u_type 0b0110111 rd imm
encoded (Auipc rd imm) = u_type 0b0010111 rd imm
encoded (Jal rd imm) = j_type 0b1101111 rd imm
encoded (Jalr rd rs1 imm) = i_type 0b1100111 0b000 rd rs1 imm
encoded (Beq rs1 rs2 imm) = b_type 0b1100011 0b000 rs1 rs2 imm
encoded (Bne rs1 rs2 imm) = b_type 0b1100011 0b001 rs1 rs2 imm
encoded (Blt rs1 rs2 imm) = b_type 0b1100011 0b100 rs1 rs2 imm
encoded (Bge rs1 rs2 imm) = b_type 0b1100011 0b101 rs1 rs2 imm
encoded (Bltu rs1 rs2 imm) = b_type 0b1100011 0b110 rs1 rs2 imm
encoded (Bgeu rs1 rs2 imm) = b_type 0b1100011 0b111 rs1 rs2 imm
encoded (Lb rd rs1 imm) = i_type 0b0000011 0b000 rd rs1 imm
encoded (Lh rd rs1 imm) = i_type 0b0000011 0b001 rd rs1 imm
encoded (Lw rd rs1 imm) = i_type 0b0000011 0b010 rd rs1 imm
encoded (Lbu rd rs1 imm) = i_type 0b0000011 0b100 rd rs1 imm
encoded (Lhu rd rs1 imm) = i_type 0b0000011 0b101 rd rs1 imm
encoded (Sb rs1 rs2 imm) = s_type 0b0100011 0b000 rs1 rs2 imm
encoded (Sh rs1 rs2 imm) = s_type 0b0100011 0b001 rs1 rs2 imm
encoded (Sw rs1 rs2 imm) = s_type 0b0100011 0b010 rs1 rs2 imm
encoded (Fence bits) = fence_type 0b0001111 0b000 bits
encoded (FenceI bits) = fence_type 0b0001111 0b001 bits
encoded Ecall = Some 0x00000073
encoded Ebreak = Some 0x00100073
encoded Mret = Some 0x30200073
encoded Wfi = Some 0x10500073
encoded (Csrrwi rd imm csr) = csr_immediate_type 0b1110011 0b101 rd imm csr
encoded (Csrrsi rd imm csr) = csr_immediate_type 0b1110011 0b110 rd imm csr
encoded (Csrrci rd imm csr) = csr_immediate_type 0b1110011 0b111 rd imm csr
encoded i = encoded_computation i

-- ---- from a word to its instruction

-- the row of a key; Illegal where none has it
abbrev pub select : ℕ → List (ℕ × Instr) → Instr
select key [] = Illegal
select key (row ∷ rows) = if key == row.0 then row.1 else select key rows

-- the branches, by funct3
unfoldable pub branch_rows : (rs1 rs2 : ℕ) → ℤ → List (ℕ × Instr)
branch_rows rs1 rs2 imm =
    (0b000, Beq rs1 rs2 imm)
    ∷ (0b001, Bne rs1 rs2 imm)
    ∷ (0b100, Blt rs1 rs2 imm)
    ∷ (0b101, Bge rs1 rs2 imm)
    ∷ (0b110, Bltu rs1 rs2 imm)
    ∷ (0b111, Bgeu rs1 rs2 imm)
    ∷ []

-- the loads, by funct3
unfoldable pub load_rows : (rd rs1 : ℕ) → ℤ → List (ℕ × Instr)
load_rows rd rs1 imm =
    (0b000, Lb rd rs1 imm)
    ∷ (0b001, Lh rd rs1 imm)
    ∷ (0b010, Lw rd rs1 imm)
    ∷ (0b100, Lbu rd rs1 imm)
    ∷ (0b101, Lhu rd rs1 imm)
    ∷ []

-- the stores, by funct3
unfoldable pub store_rows : (rs1 rs2 : ℕ) → ℤ → List (ℕ × Instr)
store_rows rs1 rs2 imm =
    (0b000, Sb rs1 rs2 imm)
    ∷ (0b001, Sh rs1 rs2 imm)
    ∷ (0b010, Sw rs1 rs2 imm)
    ∷ []

-- JALR, by funct3
unfoldable pub jalr_rows : (rd rs1 : ℕ) → ℤ → List (ℕ × Instr)
jalr_rows rd rs1 imm =
    (0b000, Jalr rd rs1 imm)
    ∷ []

-- the shift to the left by an immediate amount, by funct7
unfoldable pub left_shift_rows : (rd rs1 : ℕ) → ℤ → List (ℕ × Instr)
left_shift_rows rd rs1 imm =
    (0b0000000, Slli rd rs1 imm)
    ∷ []

-- the shifts to the right by an immediate amount, by funct7
unfoldable pub right_shift_rows : (rd rs1 : ℕ) → ℤ → List (ℕ × Instr)
right_shift_rows rd rs1 imm =
    (0b0000000, Srli rd rs1 imm)
    ∷ (0b0100000, Srai rd rs1 imm)
    ∷ []

-- the computations with an immediate, by funct3
unfoldable pub immediate_rows : (funct7 rd rs1 : ℕ) → (imm amount : ℤ) → List (ℕ × Instr)
immediate_rows funct7 rd rs1 imm amount =
    (0b000, Addi rd rs1 imm)
    ∷ (0b001, select funct7 (left_shift_rows rd rs1 amount))
    ∷ (0b010, Slti rd rs1 imm)
    ∷ (0b011, Sltiu rd rs1 imm)
    ∷ (0b100, Xori rd rs1 imm)
    ∷ (0b101, select funct7 (right_shift_rows rd rs1 amount))
    ∷ (0b110, Ori rd rs1 imm)
    ∷ (0b111, Andi rd rs1 imm)
    ∷ []

-- the computations with two registers: those of the base, of funct7 0, by funct3
unfoldable pub base_rows : (rd rs1 rs2 : ℕ) → List (ℕ × Instr)
base_rows rd rs1 rs2 =
    (0b000, Add rd rs1 rs2)
    ∷ (0b001, Sll rd rs1 rs2)
    ∷ (0b010, Slt rd rs1 rs2)
    ∷ (0b011, Sltu rd rs1 rs2)
    ∷ (0b100, Xor rd rs1 rs2)
    ∷ (0b101, Srl rd rs1 rs2)
    ∷ (0b110, Or rd rs1 rs2)
    ∷ (0b111, And rd rs1 rs2)
    ∷ []

-- those of funct7 0b0100000, by funct3
unfoldable pub alternate_rows : (rd rs1 rs2 : ℕ) → List (ℕ × Instr)
alternate_rows rd rs1 rs2 =
    (0b000, Sub rd rs1 rs2)
    ∷ (0b101, Sra rd rs1 rs2)
    ∷ []

-- and those of the extension M, of funct7 1, by funct3
unfoldable pub multiply_rows : (rd rs1 rs2 : ℕ) → List (ℕ × Instr)
multiply_rows rd rs1 rs2 =
    (0b000, Mul rd rs1 rs2)
    ∷ (0b001, Mulh rd rs1 rs2)
    ∷ (0b010, Mulhsu rd rs1 rs2)
    ∷ (0b011, Mulhu rd rs1 rs2)
    ∷ (0b100, Div rd rs1 rs2)
    ∷ (0b101, Divu rd rs1 rs2)
    ∷ (0b110, Rem rd rs1 rs2)
    ∷ (0b111, Remu rd rs1 rs2)
    ∷ []

-- the computations with two registers, by funct7
unfoldable pub register_rows : (funct3 rd rs1 rs2 : ℕ) → List (ℕ × Instr)
register_rows funct3 rd rs1 rs2 =
    (0b0000000, select funct3 (base_rows rd rs1 rs2))
    ∷ (0b0100000, select funct3 (alternate_rows rd rs1 rs2))
    ∷ (0b0000001, select funct3 (multiply_rows rd rs1 rs2))
    ∷ []

-- the fences, by funct3
unfoldable pub fence_rows : (bits : ℕ) → List (ℕ × Instr)
fence_rows bits =
    (0b000, Fence bits)
    ∷ (0b001, FenceI bits)
    ∷ []

-- the instructions that are one word each, by the word
unfoldable pub privileged_rows : List (ℕ × Instr)
privileged_rows =
    (0x00000073, Ecall)
    ∷ (0x00100073, Ebreak)
    ∷ (0x30200073, Mret)
    ∷ (0x10500073, Wfi)
    ∷ []

-- the system instructions, by funct3
unfoldable pub system_rows : (word rd rs1 : ℕ) → ℤ → ℕ → List (ℕ × Instr)
system_rows word rd rs1 imm csr =
    (0b000, select word privileged_rows)
    ∷ (0b001, Csrrw rd rs1 csr)
    ∷ (0b010, Csrrs rd rs1 csr)
    ∷ (0b011, Csrrc rd rs1 csr)
    ∷ (0b101, Csrrwi rd imm csr)
    ∷ (0b110, Csrrsi rd imm csr)
    ∷ (0b111, Csrrci rd imm csr)
    ∷ []

-- the instruction of a word, by opcode
unfoldable pub opcode_rows : ℕ → List (ℕ × Instr)
opcode_rows word =
    (0b0110111, Lui (rd_in word) (u_immediate_in word))
    ∷ (0b0010111, Auipc (rd_in word) (u_immediate_in word))
    ∷ (0b1101111, Jal (rd_in word) (j_immediate_in word))
    ∷ (0b1100111, select (funct3_in word) (jalr_rows (rd_in word) (rs1_in word) (i_immediate_in word)))
    ∷ (0b1100011, select (funct3_in word) (branch_rows (rs1_in word) (rs2_in word) (b_immediate_in word)))
    ∷ (0b0000011, select (funct3_in word) (load_rows (rd_in word) (rs1_in word) (i_immediate_in word)))
    ∷ (0b0100011, select (funct3_in word) (store_rows (rs1_in word) (rs2_in word) (s_immediate_in word)))
    ∷ (0b0010011, select (funct3_in word) (immediate_rows (funct7_in word) (rd_in word) (rs1_in word) (i_immediate_in word) (shift_amount_in word)))
    ∷ (0b0110011, select (funct7_in word) (register_rows (funct3_in word) (rd_in word) (rs1_in word) (rs2_in word)))
    ∷ (0b0001111, select (funct3_in word) (fence_rows (fence_bits_in word)))
    ∷ (0b1110011, select (funct3_in word) (system_rows word (rd_in word) (rs1_in word) (csr_immediate_in word) (csr_in word)))
    ∷ []

-- the instruction of a word
unfoldable pub decoded : ℕ → Instr
decoded word = select (opcode_in word) (opcode_rows word)
