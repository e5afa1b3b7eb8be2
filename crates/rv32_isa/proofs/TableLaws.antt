-- The table's two directions undo each other.
use Rattle.std.proofs.Common.{◌≡◌, ◌≢◌, ℕ, ◌^◌, ◌<◌, Bool, true, false, ◌==◌, if◌then◌else◌, ℤ, List, [], ◌∷◌, Option, Some, None, IfSome, refl, sym, ◌∙◌, ap, arith, eqb-true, lit<}
use Rattle.rv32_isa.specs.Formats.{opcode_in, rd_in, funct3_in, rs1_in, rs2_in, funct7_in, csr_in, fence_bits_in, i_immediate_in, s_immediate_in, b_immediate_in, u_immediate_in, j_immediate_in, shift_amount_in, csr_immediate_in}
use Rattle.rv32_isa.specs.Table.{encoded, encoded_computation, decoded, select, branch_rows, load_rows, store_rows, jalr_rows, left_shift_rows, right_shift_rows, immediate_rows, base_rows, alternate_rows, multiply_rows, register_rows, fence_rows, privileged_rows, system_rows, opcode_rows}
use Rattle.rv32_isa.specs.declared.instr.Instr.{Instr}
use Rattle.rv32_isa.specs.declared.instr.Instr.TheVariants.{Lui, Auipc, Jal, Jalr, Beq, Bne, Blt, Bge, Bltu, Bgeu, Lb, Lh, Lw, Lbu, Lhu, Sb, Sh, Sw, Addi, Slti, Sltiu, Xori, Ori, Andi, Slli, Srli, Srai, Add, Sub, Sll, Slt, Sltu, Xor, Srl, Sra, Or, And, Mul, Mulh, Mulhsu, Mulhu, Div, Divu, Rem, Remu, Fence, FenceI, Ecall, Ebreak, Mret, Wfi, Csrrw, Csrrs, Csrrc, Csrrwi, Csrrsi, Csrrci, Illegal}
use Rattle.rv32_isa.proofs.FormatLaws.{r_back, i_back, shift_back, s_back, b_back, u_back, j_back, csr_back, csr_immediate_back, fence_back, RFields, r_fields, IFields, i_fields, ShiftFields, shift_fields, SFields, s_fields, b_fields, u_fields, j_fields, CsrFields, csr_fields, CsrImmediateFields, csr_immediate_fields, FenceFields, fence_fields}

-- ---- a word's instruction has that word

-- unless it is Illegal, the instruction's word is this one
pub EncodesTo : ℕ → Instr → Type 0
EncodesTo word i = i ≢ Illegal → encoded i ≡ Some word

illegal : (word : ℕ) → EncodesTo word Illegal
unfolding EncodesTo
illegal word not_so = absurd (not_so refl)

-- what is so of each row at its own key
abbrev AtEachKey : (Instr → Type 0) → ℕ → List (ℕ × Instr) → Type 0
AtEachKey P key [] = Unit {0}
AtEachKey P key (row ∷ rows) = (key ≡ row.0 → P row.1) × AtEachKey P key rows

chosen : (P : Instr → Type 0) (key : ℕ) (row : ℕ × Instr) (other : Instr) (b : Bool) → (key == row.0) ≡ b → (key ≡ row.0 → P row.1) → P other
    → P (if b then row.1 else other)
chosen P key row other true e here there = here (omega (arith, eqb-true))
chosen P key row other false e here there = there

-- is so of the row that is selected
selected : (P : Instr → Type 0) → P Illegal → (key : ℕ) (rows : List (ℕ × Instr)) → AtEachKey P key rows → P (select key rows)
selected P none key [] facts = none
selected P none key (row ∷ rows) facts = chosen P key row (select key rows) (key == row.0) refl facts.0 (selected P none key rows facts.1)

branch_encodes : (w : ℕ) → w < 2 ^ 32 → opcode_in w ≡ 0b1100011 → EncodesTo w (select (funct3_in w) (branch_rows (rs1_in w) (rs2_in w) (b_immediate_in w)))
unfolding EncodesTo encoded encoded_computation branch_rows
branch_encodes w fits o = selected (EncodesTo w) (illegal w) (funct3_in w) (branch_rows (rs1_in w) (rs2_in w) (b_immediate_in w)) (
  λ e _. b_back w 0b1100011 0b000 fits o e,
  (
    λ e _. b_back w 0b1100011 0b001 fits o e,
    (
      λ e _. b_back w 0b1100011 0b100 fits o e,
      (
        λ e _. b_back w 0b1100011 0b101 fits o e,
        (
          λ e _. b_back w 0b1100011 0b110 fits o e,
          (
            λ e _. b_back w 0b1100011 0b111 fits o e,
            tt,
          ),
        ),
      ),
    ),
  ),
)

load_encodes : (w : ℕ) → w < 2 ^ 32 → opcode_in w ≡ 0b0000011 → EncodesTo w (select (funct3_in w) (load_rows (rd_in w) (rs1_in w) (i_immediate_in w)))
unfolding EncodesTo encoded encoded_computation load_rows
load_encodes w fits o = selected (EncodesTo w) (illegal w) (funct3_in w) (load_rows (rd_in w) (rs1_in w) (i_immediate_in w)) (
  λ e _. i_back w 0b0000011 0b000 fits o e,
  (
    λ e _. i_back w 0b0000011 0b001 fits o e,
    (
      λ e _. i_back w 0b0000011 0b010 fits o e,
      (
        λ e _. i_back w 0b0000011 0b100 fits o e,
        (
          λ e _. i_back w 0b0000011 0b101 fits o e,
          tt,
        ),
      ),
    ),
  ),
)

store_encodes : (w : ℕ) → w < 2 ^ 32 → opcode_in w ≡ 0b0100011 → EncodesTo w (select (funct3_in w) (store_rows (rs1_in w) (rs2_in w) (s_immediate_in w)))
unfolding EncodesTo encoded encoded_computation store_rows
store_encodes w fits o = selected (EncodesTo w) (illegal w) (funct3_in w) (store_rows (rs1_in w) (rs2_in w) (s_immediate_in w)) (
  λ e _. s_back w 0b0100011 0b000 fits o e,
  (
    λ e _. s_back w 0b0100011 0b001 fits o e,
    (
      λ e _. s_back w 0b0100011 0b010 fits o e,
      tt,
    ),
  ),
)

jalr_encodes : (w : ℕ) → w < 2 ^ 32 → opcode_in w ≡ 0b1100111 → EncodesTo w (select (funct3_in w) (jalr_rows (rd_in w) (rs1_in w) (i_immediate_in w)))
unfolding EncodesTo encoded encoded_computation jalr_rows
jalr_encodes w fits o = selected (EncodesTo w) (illegal w) (funct3_in w) (jalr_rows (rd_in w) (rs1_in w) (i_immediate_in w)) (
  λ e _. i_back w 0b1100111 0b000 fits o e,
  tt,
)

left_shift_encodes : (w : ℕ) → w < 2 ^ 32 → opcode_in w ≡ 0b0010011 → funct3_in w ≡ 0b001 → EncodesTo w (select (funct7_in w) (left_shift_rows (rd_in w) (rs1_in w) (shift_amount_in w)))
unfolding EncodesTo encoded encoded_computation left_shift_rows
left_shift_encodes w fits o f = selected (EncodesTo w) (illegal w) (funct7_in w) (left_shift_rows (rd_in w) (rs1_in w) (shift_amount_in w)) (
  λ e _. shift_back w 0b0010011 0b001 0b0000000 fits o f e,
  tt,
)

right_shift_encodes : (w : ℕ) → w < 2 ^ 32 → opcode_in w ≡ 0b0010011 → funct3_in w ≡ 0b101 → EncodesTo w (select (funct7_in w) (right_shift_rows (rd_in w) (rs1_in w) (shift_amount_in w)))
unfolding EncodesTo encoded encoded_computation right_shift_rows
right_shift_encodes w fits o f = selected (EncodesTo w) (illegal w) (funct7_in w) (right_shift_rows (rd_in w) (rs1_in w) (shift_amount_in w)) (
  λ e _. shift_back w 0b0010011 0b101 0b0000000 fits o f e,
  (
    λ e _. shift_back w 0b0010011 0b101 0b0100000 fits o f e,
    tt,
  ),
)

immediate_encodes : (w : ℕ) → w < 2 ^ 32 → opcode_in w ≡ 0b0010011 → EncodesTo w (select (funct3_in w) (immediate_rows (funct7_in w) (rd_in w) (rs1_in w) (i_immediate_in w) (shift_amount_in w)))
unfolding EncodesTo encoded encoded_computation immediate_rows
immediate_encodes w fits o = selected (EncodesTo w) (illegal w) (funct3_in w) (immediate_rows (funct7_in w) (rd_in w) (rs1_in w) (i_immediate_in w) (shift_amount_in w)) (
  λ e _. i_back w 0b0010011 0b000 fits o e,
  (
    λ e. left_shift_encodes w fits o e,
    (
      λ e _. i_back w 0b0010011 0b010 fits o e,
      (
        λ e _. i_back w 0b0010011 0b011 fits o e,
        (
          λ e _. i_back w 0b0010011 0b100 fits o e,
          (
            λ e. right_shift_encodes w fits o e,
            (
              λ e _. i_back w 0b0010011 0b110 fits o e,
              (
                λ e _. i_back w 0b0010011 0b111 fits o e,
                tt,
              ),
            ),
          ),
        ),
      ),
    ),
  ),
)

base_encodes : (w : ℕ) → w < 2 ^ 32 → opcode_in w ≡ 0b0110011 → funct7_in w ≡ 0b0000000 → EncodesTo w (select (funct3_in w) (base_rows (rd_in w) (rs1_in w) (rs2_in w)))
unfolding EncodesTo encoded encoded_computation base_rows
base_encodes w fits o f = selected (EncodesTo w) (illegal w) (funct3_in w) (base_rows (rd_in w) (rs1_in w) (rs2_in w)) (
  λ e _. r_back w 0b0110011 0b000 0b0000000 fits o e f,
  (
    λ e _. r_back w 0b0110011 0b001 0b0000000 fits o e f,
    (
      λ e _. r_back w 0b0110011 0b010 0b0000000 fits o e f,
      (
        λ e _. r_back w 0b0110011 0b011 0b0000000 fits o e f,
        (
          λ e _. r_back w 0b0110011 0b100 0b0000000 fits o e f,
          (
            λ e _. r_back w 0b0110011 0b101 0b0000000 fits o e f,
            (
              λ e _. r_back w 0b0110011 0b110 0b0000000 fits o e f,
              (
                λ e _. r_back w 0b0110011 0b111 0b0000000 fits o e f,
                tt,
              ),
            ),
          ),
        ),
      ),
    ),
  ),
)

alternate_encodes : (w : ℕ) → w < 2 ^ 32 → opcode_in w ≡ 0b0110011 → funct7_in w ≡ 0b0100000 → EncodesTo w (select (funct3_in w) (alternate_rows (rd_in w) (rs1_in w) (rs2_in w)))
unfolding EncodesTo encoded encoded_computation alternate_rows
alternate_encodes w fits o f = selected (EncodesTo w) (illegal w) (funct3_in w) (alternate_rows (rd_in w) (rs1_in w) (rs2_in w)) (
  λ e _. r_back w 0b0110011 0b000 0b0100000 fits o e f,
  (
    λ e _. r_back w 0b0110011 0b101 0b0100000 fits o e f,
    tt,
  ),
)

multiply_encodes : (w : ℕ) → w < 2 ^ 32 → opcode_in w ≡ 0b0110011 → funct7_in w ≡ 0b0000001 → EncodesTo w (select (funct3_in w) (multiply_rows (rd_in w) (rs1_in w) (rs2_in w)))
unfolding EncodesTo encoded encoded_computation multiply_rows
multiply_encodes w fits o f = selected (EncodesTo w) (illegal w) (funct3_in w) (multiply_rows (rd_in w) (rs1_in w) (rs2_in w)) (
  λ e _. r_back w 0b0110011 0b000 0b0000001 fits o e f,
  (
    λ e _. r_back w 0b0110011 0b001 0b0000001 fits o e f,
    (
      λ e _. r_back w 0b0110011 0b010 0b0000001 fits o e f,
      (
        λ e _. r_back w 0b0110011 0b011 0b0000001 fits o e f,
        (
          λ e _. r_back w 0b0110011 0b100 0b0000001 fits o e f,
          (
            λ e _. r_back w 0b0110011 0b101 0b0000001 fits o e f,
            (
              λ e _. r_back w 0b0110011 0b110 0b0000001 fits o e f,
              (
                λ e _. r_back w 0b0110011 0b111 0b0000001 fits o e f,
                tt,
              ),
            ),
          ),
        ),
      ),
    ),
  ),
)

register_encodes : (w : ℕ) → w < 2 ^ 32 → opcode_in w ≡ 0b0110011 → EncodesTo w (select (funct7_in w) (register_rows (funct3_in w) (rd_in w) (rs1_in w) (rs2_in w)))
unfolding EncodesTo encoded encoded_computation register_rows
register_encodes w fits o = selected (EncodesTo w) (illegal w) (funct7_in w) (register_rows (funct3_in w) (rd_in w) (rs1_in w) (rs2_in w)) (
  λ e. base_encodes w fits o e,
  (
    λ e. alternate_encodes w fits o e,
    (
      λ e. multiply_encodes w fits o e,
      tt,
    ),
  ),
)

fence_encodes : (w : ℕ) → w < 2 ^ 32 → opcode_in w ≡ 0b0001111 → EncodesTo w (select (funct3_in w) (fence_rows (fence_bits_in w)))
unfolding EncodesTo encoded encoded_computation fence_rows
fence_encodes w fits o = selected (EncodesTo w) (illegal w) (funct3_in w) (fence_rows (fence_bits_in w)) (
  λ e _. fence_back w 0b0001111 0b000 fits o e,
  (
    λ e _. fence_back w 0b0001111 0b001 fits o e,
    tt,
  ),
)

privileged_encodes : (w : ℕ) → EncodesTo w (select w privileged_rows)
unfolding EncodesTo encoded encoded_computation privileged_rows
privileged_encodes w = selected (EncodesTo w) (illegal w) w privileged_rows (
  λ e _. ap Some (sym e),
  (
    λ e _. ap Some (sym e),
    (
      λ e _. ap Some (sym e),
      (
        λ e _. ap Some (sym e),
        tt,
      ),
    ),
  ),
)

system_encodes : (w : ℕ) → w < 2 ^ 32 → opcode_in w ≡ 0b1110011 → EncodesTo w (select (funct3_in w) (system_rows w (rd_in w) (rs1_in w) (csr_immediate_in w) (csr_in w)))
unfolding EncodesTo encoded encoded_computation system_rows
system_encodes w fits o = selected (EncodesTo w) (illegal w) (funct3_in w) (system_rows w (rd_in w) (rs1_in w) (csr_immediate_in w) (csr_in w)) (
  λ e. privileged_encodes w,
  (
    λ e _. csr_back w 0b1110011 0b001 fits o e,
    (
      λ e _. csr_back w 0b1110011 0b010 fits o e,
      (
        λ e _. csr_back w 0b1110011 0b011 fits o e,
        (
          λ e _. csr_immediate_back w 0b1110011 0b101 fits o e,
          (
            λ e _. csr_immediate_back w 0b1110011 0b110 fits o e,
            (
              λ e _. csr_immediate_back w 0b1110011 0b111 fits o e,
              tt,
            ),
          ),
        ),
      ),
    ),
  ),
)

pub decoded_encodes : (w : ℕ) → w < 2 ^ 32 → EncodesTo w (decoded w)
unfolding EncodesTo encoded encoded_computation decoded opcode_rows
decoded_encodes w fits = selected (EncodesTo w) (illegal w) (opcode_in w) (opcode_rows w) (
  λ e _. u_back w 0b0110111 fits e,
  (
    λ e _. u_back w 0b0010111 fits e,
    (
      λ e _. j_back w 0b1101111 fits e,
      (
        λ e. jalr_encodes w fits e,
        (
          λ e. branch_encodes w fits e,
          (
            λ e. load_encodes w fits e,
            (
              λ e. store_encodes w fits e,
              (
                λ e. immediate_encodes w fits e,
                (
                  λ e. register_encodes w fits e,
                  (
                    λ e. fence_encodes w fits e,
                    (
                      λ e. system_encodes w fits e,
                      tt,
                    ),
                  ),
                ),
              ),
            ),
          ),
        ),
      ),
    ),
  ),
)

-- the clause of `decode`
pub encodes_back : (w : ℕ) (i : Instr) → w < 2 ^ 32 → i ≡ decoded w → i ≢ Illegal → encoded i ≡ Some w
unfolding EncodesTo
encodes_back w i fits e legal = ap encoded e ∙ decoded_encodes w fits (λ none. legal (e ∙ none))

-- ---- an instruction's word has that instruction

lui_decodes : (w : ℕ) → opcode_in w ≡ 0b0110111 → decoded w ≡ Lui (rd_in w) (u_immediate_in w)
unfolding decoded opcode_rows
lui_decodes w o = rw o refl

auipc_decodes : (w : ℕ) → opcode_in w ≡ 0b0010111 → decoded w ≡ Auipc (rd_in w) (u_immediate_in w)
unfolding decoded opcode_rows
auipc_decodes w o = rw o refl

jal_decodes : (w : ℕ) → opcode_in w ≡ 0b1101111 → decoded w ≡ Jal (rd_in w) (j_immediate_in w)
unfolding decoded opcode_rows
jal_decodes w o = rw o refl

jalr_decodes : (w : ℕ) → opcode_in w ≡ 0b1100111 → decoded w ≡ select (funct3_in w) (jalr_rows (rd_in w) (rs1_in w) (i_immediate_in w))
unfolding decoded opcode_rows
jalr_decodes w o = rw o refl

branch_decodes : (w : ℕ) → opcode_in w ≡ 0b1100011 → decoded w ≡ select (funct3_in w) (branch_rows (rs1_in w) (rs2_in w) (b_immediate_in w))
unfolding decoded opcode_rows
branch_decodes w o = rw o refl

load_decodes : (w : ℕ) → opcode_in w ≡ 0b0000011 → decoded w ≡ select (funct3_in w) (load_rows (rd_in w) (rs1_in w) (i_immediate_in w))
unfolding decoded opcode_rows
load_decodes w o = rw o refl

store_decodes : (w : ℕ) → opcode_in w ≡ 0b0100011 → decoded w ≡ select (funct3_in w) (store_rows (rs1_in w) (rs2_in w) (s_immediate_in w))
unfolding decoded opcode_rows
store_decodes w o = rw o refl

immediate_decodes : (w : ℕ) → opcode_in w ≡ 0b0010011 → decoded w ≡ select (funct3_in w) (immediate_rows (funct7_in w) (rd_in w) (rs1_in w) (i_immediate_in w) (shift_amount_in w))
unfolding decoded opcode_rows
immediate_decodes w o = rw o refl

register_decodes : (w : ℕ) → opcode_in w ≡ 0b0110011 → decoded w ≡ select (funct7_in w) (register_rows (funct3_in w) (rd_in w) (rs1_in w) (rs2_in w))
unfolding decoded opcode_rows
register_decodes w o = rw o refl

fence_decodes : (w : ℕ) → opcode_in w ≡ 0b0001111 → decoded w ≡ select (funct3_in w) (fence_rows (fence_bits_in w))
unfolding decoded opcode_rows
fence_decodes w o = rw o refl

system_decodes : (w : ℕ) → opcode_in w ≡ 0b1110011 → decoded w ≡ select (funct3_in w) (system_rows w (rd_in w) (rs1_in w) (csr_immediate_in w) (csr_in w))
unfolding decoded opcode_rows
system_decodes w o = rw o refl

branch_back : (w f3 rs1 rs2 : ℕ) (imm : ℤ) → SFields w 0b1100011 f3 rs1 rs2 (b_immediate_in w) imm → decoded w ≡ select f3 (branch_rows rs1 rs2 imm)
branch_back w f3 rs1 rs2 imm fields = let start = branch_decodes w fields.opcode in cc

load_back : (w f3 rd rs1 : ℕ) (imm : ℤ) → IFields w 0b0000011 f3 rd rs1 imm → decoded w ≡ select f3 (load_rows rd rs1 imm)
load_back w f3 rd rs1 imm fields = let start = load_decodes w fields.opcode in cc

store_back : (w f3 rs1 rs2 : ℕ) (imm : ℤ) → SFields w 0b0100011 f3 rs1 rs2 (s_immediate_in w) imm → decoded w ≡ select f3 (store_rows rs1 rs2 imm)
store_back w f3 rs1 rs2 imm fields = let start = store_decodes w fields.opcode in cc

jalr_back : (w f3 rd rs1 : ℕ) (imm : ℤ) → IFields w 0b1100111 f3 rd rs1 imm → decoded w ≡ select f3 (jalr_rows rd rs1 imm)
jalr_back w f3 rd rs1 imm fields = let start = jalr_decodes w fields.opcode in cc

immediate_back : (w f3 rd rs1 : ℕ) (imm : ℤ) → IFields w 0b0010011 f3 rd rs1 imm
    → decoded w ≡ select f3 (immediate_rows (funct7_in w) rd rs1 imm (shift_amount_in w))
immediate_back w f3 rd rs1 imm fields = let start = immediate_decodes w fields.opcode in cc

shift_amount_back : (w f3 f7 rd rs1 : ℕ) (imm : ℤ) → ShiftFields w 0b0010011 f3 f7 rd rs1 imm
    → decoded w ≡ select f3 (immediate_rows f7 rd rs1 (i_immediate_in w) imm)
shift_amount_back w f3 f7 rd rs1 imm fields = let start = immediate_decodes w fields.opcode in cc

register_back : (w f3 f7 rd rs1 rs2 : ℕ) → RFields w 0b0110011 f3 f7 rd rs1 rs2 → decoded w ≡ select f7 (register_rows f3 rd rs1 rs2)
register_back w f3 f7 rd rs1 rs2 fields = let start = register_decodes w fields.opcode in cc

fence_bits_back : (w f3 bits : ℕ) → FenceFields w 0b0001111 f3 bits → decoded w ≡ select f3 (fence_rows bits)
fence_bits_back w f3 bits fields = let start = fence_decodes w fields.opcode in cc

csr_register_back : (w f3 rd rs1 csr : ℕ) → CsrFields w 0b1110011 f3 rd rs1 csr
    → decoded w ≡ select f3 (system_rows w rd rs1 (csr_immediate_in w) csr)
csr_register_back w f3 rd rs1 csr fields = let start = system_decodes w fields.opcode in cc

csr_bits_back : (w f3 rd : ℕ) (imm : ℤ) (csr : ℕ) → CsrImmediateFields w 0b1110011 f3 rd imm csr
    → decoded w ≡ select f3 (system_rows w rd (rs1_in w) imm csr)
csr_bits_back w f3 rd imm csr fields = let start = system_decodes w fields.opcode in cc

word_is : (made w : ℕ) → Some made ≡ Some w → w ≡ made
word_is made w e = cc

ecall_word : decoded 0x00000073 ≡ Ecall
unfolding decoded opcode_rows system_rows privileged_rows
ecall_word = refl

ebreak_word : decoded 0x00100073 ≡ Ebreak
unfolding decoded opcode_rows system_rows privileged_rows
ebreak_word = refl

mret_word : decoded 0x30200073 ≡ Mret
unfolding decoded opcode_rows system_rows privileged_rows
mret_word = refl

wfi_word : decoded 0x10500073 ≡ Wfi
unfolding decoded opcode_rows system_rows privileged_rows
wfi_word = refl

pub decoded_back : (i : Instr) (w : ℕ) → encoded i ≡ Some w → decoded w ≡ i
unfolding encoded encoded_computation branch_rows load_rows store_rows jalr_rows left_shift_rows right_shift_rows immediate_rows base_rows alternate_rows multiply_rows register_rows fence_rows system_rows
decoded_back (Lui rd imm) w e =
    let fields = u_fields w 0b0110111 rd imm (lit< tt) e in let start = lui_decodes w fields.opcode in cc
decoded_back (Auipc rd imm) w e =
    let fields = u_fields w 0b0010111 rd imm (lit< tt) e in let start = auipc_decodes w fields.opcode in cc
decoded_back (Jal rd imm) w e =
    let fields = j_fields w 0b1101111 rd imm (lit< tt) e in let start = jal_decodes w fields.opcode in cc
decoded_back (Jalr rd rs1 imm) w e = jalr_back w 0b000 rd rs1 imm (i_fields w 0b1100111 0b000 rd rs1 imm (lit< tt) (lit< tt) e)
decoded_back (Beq rs1 rs2 imm) w e = branch_back w 0b000 rs1 rs2 imm (b_fields w 0b1100011 0b000 rs1 rs2 imm (lit< tt) (lit< tt) e)
decoded_back (Bne rs1 rs2 imm) w e = branch_back w 0b001 rs1 rs2 imm (b_fields w 0b1100011 0b001 rs1 rs2 imm (lit< tt) (lit< tt) e)
decoded_back (Blt rs1 rs2 imm) w e = branch_back w 0b100 rs1 rs2 imm (b_fields w 0b1100011 0b100 rs1 rs2 imm (lit< tt) (lit< tt) e)
decoded_back (Bge rs1 rs2 imm) w e = branch_back w 0b101 rs1 rs2 imm (b_fields w 0b1100011 0b101 rs1 rs2 imm (lit< tt) (lit< tt) e)
decoded_back (Bltu rs1 rs2 imm) w e = branch_back w 0b110 rs1 rs2 imm (b_fields w 0b1100011 0b110 rs1 rs2 imm (lit< tt) (lit< tt) e)
decoded_back (Bgeu rs1 rs2 imm) w e = branch_back w 0b111 rs1 rs2 imm (b_fields w 0b1100011 0b111 rs1 rs2 imm (lit< tt) (lit< tt) e)
decoded_back (Lb rd rs1 imm) w e = load_back w 0b000 rd rs1 imm (i_fields w 0b0000011 0b000 rd rs1 imm (lit< tt) (lit< tt) e)
decoded_back (Lh rd rs1 imm) w e = load_back w 0b001 rd rs1 imm (i_fields w 0b0000011 0b001 rd rs1 imm (lit< tt) (lit< tt) e)
decoded_back (Lw rd rs1 imm) w e = load_back w 0b010 rd rs1 imm (i_fields w 0b0000011 0b010 rd rs1 imm (lit< tt) (lit< tt) e)
decoded_back (Lbu rd rs1 imm) w e = load_back w 0b100 rd rs1 imm (i_fields w 0b0000011 0b100 rd rs1 imm (lit< tt) (lit< tt) e)
decoded_back (Lhu rd rs1 imm) w e = load_back w 0b101 rd rs1 imm (i_fields w 0b0000011 0b101 rd rs1 imm (lit< tt) (lit< tt) e)
decoded_back (Sb rs1 rs2 imm) w e = store_back w 0b000 rs1 rs2 imm (s_fields w 0b0100011 0b000 rs1 rs2 imm (lit< tt) (lit< tt) e)
decoded_back (Sh rs1 rs2 imm) w e = store_back w 0b001 rs1 rs2 imm (s_fields w 0b0100011 0b001 rs1 rs2 imm (lit< tt) (lit< tt) e)
decoded_back (Sw rs1 rs2 imm) w e = store_back w 0b010 rs1 rs2 imm (s_fields w 0b0100011 0b010 rs1 rs2 imm (lit< tt) (lit< tt) e)
decoded_back (Addi rd rs1 imm) w e = immediate_back w 0b000 rd rs1 imm (i_fields w 0b0010011 0b000 rd rs1 imm (lit< tt) (lit< tt) e)
decoded_back (Slti rd rs1 imm) w e = immediate_back w 0b010 rd rs1 imm (i_fields w 0b0010011 0b010 rd rs1 imm (lit< tt) (lit< tt) e)
decoded_back (Sltiu rd rs1 imm) w e = immediate_back w 0b011 rd rs1 imm (i_fields w 0b0010011 0b011 rd rs1 imm (lit< tt) (lit< tt) e)
decoded_back (Xori rd rs1 imm) w e = immediate_back w 0b100 rd rs1 imm (i_fields w 0b0010011 0b100 rd rs1 imm (lit< tt) (lit< tt) e)
decoded_back (Ori rd rs1 imm) w e = immediate_back w 0b110 rd rs1 imm (i_fields w 0b0010011 0b110 rd rs1 imm (lit< tt) (lit< tt) e)
decoded_back (Andi rd rs1 imm) w e = immediate_back w 0b111 rd rs1 imm (i_fields w 0b0010011 0b111 rd rs1 imm (lit< tt) (lit< tt) e)
decoded_back (Slli rd rs1 imm) w e =
    shift_amount_back w 0b001 0b0000000 rd rs1 imm (shift_fields w 0b0010011 0b001 0b0000000 rd rs1 imm (lit< tt) (lit< tt) (lit< tt) e)
decoded_back (Srli rd rs1 imm) w e =
    shift_amount_back w 0b101 0b0000000 rd rs1 imm (shift_fields w 0b0010011 0b101 0b0000000 rd rs1 imm (lit< tt) (lit< tt) (lit< tt) e)
decoded_back (Srai rd rs1 imm) w e =
    shift_amount_back w 0b101 0b0100000 rd rs1 imm (shift_fields w 0b0010011 0b101 0b0100000 rd rs1 imm (lit< tt) (lit< tt) (lit< tt) e)
decoded_back (Add rd rs1 rs2) w e = register_back w 0b000 0b0000000 rd rs1 rs2 (r_fields w 0b0110011 0b000 0b0000000 rd rs1 rs2 (lit< tt) (lit< tt) (lit< tt) e)
decoded_back (Sub rd rs1 rs2) w e = register_back w 0b000 0b0100000 rd rs1 rs2 (r_fields w 0b0110011 0b000 0b0100000 rd rs1 rs2 (lit< tt) (lit< tt) (lit< tt) e)
decoded_back (Sll rd rs1 rs2) w e = register_back w 0b001 0b0000000 rd rs1 rs2 (r_fields w 0b0110011 0b001 0b0000000 rd rs1 rs2 (lit< tt) (lit< tt) (lit< tt) e)
decoded_back (Slt rd rs1 rs2) w e = register_back w 0b010 0b0000000 rd rs1 rs2 (r_fields w 0b0110011 0b010 0b0000000 rd rs1 rs2 (lit< tt) (lit< tt) (lit< tt) e)
decoded_back (Sltu rd rs1 rs2) w e = register_back w 0b011 0b0000000 rd rs1 rs2 (r_fields w 0b0110011 0b011 0b0000000 rd rs1 rs2 (lit< tt) (lit< tt) (lit< tt) e)
decoded_back (Xor rd rs1 rs2) w e = register_back w 0b100 0b0000000 rd rs1 rs2 (r_fields w 0b0110011 0b100 0b0000000 rd rs1 rs2 (lit< tt) (lit< tt) (lit< tt) e)
decoded_back (Srl rd rs1 rs2) w e = register_back w 0b101 0b0000000 rd rs1 rs2 (r_fields w 0b0110011 0b101 0b0000000 rd rs1 rs2 (lit< tt) (lit< tt) (lit< tt) e)
decoded_back (Sra rd rs1 rs2) w e = register_back w 0b101 0b0100000 rd rs1 rs2 (r_fields w 0b0110011 0b101 0b0100000 rd rs1 rs2 (lit< tt) (lit< tt) (lit< tt) e)
decoded_back (Or rd rs1 rs2) w e = register_back w 0b110 0b0000000 rd rs1 rs2 (r_fields w 0b0110011 0b110 0b0000000 rd rs1 rs2 (lit< tt) (lit< tt) (lit< tt) e)
decoded_back (And rd rs1 rs2) w e = register_back w 0b111 0b0000000 rd rs1 rs2 (r_fields w 0b0110011 0b111 0b0000000 rd rs1 rs2 (lit< tt) (lit< tt) (lit< tt) e)
decoded_back (Mul rd rs1 rs2) w e = register_back w 0b000 0b0000001 rd rs1 rs2 (r_fields w 0b0110011 0b000 0b0000001 rd rs1 rs2 (lit< tt) (lit< tt) (lit< tt) e)
decoded_back (Mulh rd rs1 rs2) w e = register_back w 0b001 0b0000001 rd rs1 rs2 (r_fields w 0b0110011 0b001 0b0000001 rd rs1 rs2 (lit< tt) (lit< tt) (lit< tt) e)
decoded_back (Mulhsu rd rs1 rs2) w e = register_back w 0b010 0b0000001 rd rs1 rs2 (r_fields w 0b0110011 0b010 0b0000001 rd rs1 rs2 (lit< tt) (lit< tt) (lit< tt) e)
decoded_back (Mulhu rd rs1 rs2) w e = register_back w 0b011 0b0000001 rd rs1 rs2 (r_fields w 0b0110011 0b011 0b0000001 rd rs1 rs2 (lit< tt) (lit< tt) (lit< tt) e)
decoded_back (Div rd rs1 rs2) w e = register_back w 0b100 0b0000001 rd rs1 rs2 (r_fields w 0b0110011 0b100 0b0000001 rd rs1 rs2 (lit< tt) (lit< tt) (lit< tt) e)
decoded_back (Divu rd rs1 rs2) w e = register_back w 0b101 0b0000001 rd rs1 rs2 (r_fields w 0b0110011 0b101 0b0000001 rd rs1 rs2 (lit< tt) (lit< tt) (lit< tt) e)
decoded_back (Rem rd rs1 rs2) w e = register_back w 0b110 0b0000001 rd rs1 rs2 (r_fields w 0b0110011 0b110 0b0000001 rd rs1 rs2 (lit< tt) (lit< tt) (lit< tt) e)
decoded_back (Remu rd rs1 rs2) w e = register_back w 0b111 0b0000001 rd rs1 rs2 (r_fields w 0b0110011 0b111 0b0000001 rd rs1 rs2 (lit< tt) (lit< tt) (lit< tt) e)
decoded_back (Fence bits) w e = fence_bits_back w 0b000 bits (fence_fields w 0b0001111 0b000 bits (lit< tt) (lit< tt) e)
decoded_back (FenceI bits) w e = fence_bits_back w 0b001 bits (fence_fields w 0b0001111 0b001 bits (lit< tt) (lit< tt) e)
decoded_back Ecall w e = ap decoded (word_is 0x00000073 w e) ∙ ecall_word
decoded_back Ebreak w e = ap decoded (word_is 0x00100073 w e) ∙ ebreak_word
decoded_back Mret w e = ap decoded (word_is 0x30200073 w e) ∙ mret_word
decoded_back Wfi w e = ap decoded (word_is 0x10500073 w e) ∙ wfi_word
decoded_back (Csrrw rd rs1 csr) w e = csr_register_back w 0b001 rd rs1 csr (csr_fields w 0b1110011 0b001 rd rs1 csr (lit< tt) (lit< tt) e)
decoded_back (Csrrs rd rs1 csr) w e = csr_register_back w 0b010 rd rs1 csr (csr_fields w 0b1110011 0b010 rd rs1 csr (lit< tt) (lit< tt) e)
decoded_back (Csrrc rd rs1 csr) w e = csr_register_back w 0b011 rd rs1 csr (csr_fields w 0b1110011 0b011 rd rs1 csr (lit< tt) (lit< tt) e)
decoded_back (Csrrwi rd imm csr) w e = csr_bits_back w 0b101 rd imm csr (csr_immediate_fields w 0b1110011 0b101 rd imm csr (lit< tt) (lit< tt) e)
decoded_back (Csrrsi rd imm csr) w e = csr_bits_back w 0b110 rd imm csr (csr_immediate_fields w 0b1110011 0b110 rd imm csr (lit< tt) (lit< tt) e)
decoded_back (Csrrci rd imm csr) w e = csr_bits_back w 0b111 rd imm csr (csr_immediate_fields w 0b1110011 0b111 rd imm csr (lit< tt) (lit< tt) e)
decoded_back Illegal w e = cc

-- the clause of `encode`
pub decodes_back : (i : Instr) (r : Option ℕ) → r ≡ encoded i → IfSome r (λ w. decoded w ≡ i)
decodes_back i None e = tt
decodes_back i (Some w) e = decoded_back i w (sym e)
