-- The word of an instruction has 32 bits.
use Rattle.std.proofs.Common.{◌≡◌, ℕ, ◌^◌, ◌<◌, Bool, true, false, ◌&&◌, ◌==◌, nat_lt, ℤ, Some, refl, subst, arith, ltb-true, eqb-true, lit<}
use Rattle.rv32_isa.specs.Bits.{slice, is_signed, is_unsigned}
use Rattle.rv32_isa.specs.Formats.{is_register, is_even, r_type, i_type, shift_type, s_type, b_type, u_type, j_type, csr_type, csr_immediate_type, fence_type}
use Rattle.rv32_isa.specs.Table.{encoded, encoded_computation}
use Rattle.rv32_isa.specs.declared.instr.Instr.{Instr}
use Rattle.rv32_isa.specs.declared.instr.Instr.TheVariants.{Lui, Auipc, Jal, Jalr, Beq, Bne, Blt, Bge, Bltu, Bgeu, Lb, Lh, Lw, Lbu, Lhu, Sb, Sh, Sw, Addi, Slti, Sltiu, Xori, Ori, Andi, Slli, Srli, Srai, Add, Sub, Sll, Slt, Sltu, Xor, Srl, Sra, Or, And, Mul, Mulh, Mulhsu, Mulhu, Div, Divu, Rem, Remu, Fence, FenceI, Ecall, Ebreak, Mret, Wfi, Csrrw, Csrrs, Csrrc, Csrrwi, Csrrsi, Csrrci, Illegal}
use Rattle.rv32_isa.proofs.FormatLaws.{made_of}

first_of_both : (a b : Bool) → (a && b) ≡ true → a ≡ true
first_of_both true b e = refl
first_of_both false b e = e

second_of_both : (a b : Bool) → (a && b) ≡ true → b ≡ true
second_of_both true b e = e
second_of_both false b e = cc

is_below : (n k : ℕ) → nat_lt n k ≡ true → n < k
is_below n k e = omega (arith, ltb-true)

r_fits : (w op f3 f7 rd rs1 rs2 : ℕ) → op < 2 ^ 7 → f3 < 2 ^ 3 → f7 < 2 ^ 7 → r_type op f3 f7 rd rs1 rs2 ≡ Some w → w < 2 ^ 32
r_fits w op f3 f7 rd rs1 rs2 o f g e =
    let made = made_of (is_register rd && is_register rs1 && is_register rs2) _ w e in
    let d : rd < 32 = is_below rd 32 (first_of_both _ _ (first_of_both _ _ made.passed)) in
    let s : rs1 < 32 = is_below rs1 32 (second_of_both (is_register rd) _ (first_of_both _ _ made.passed)) in
    let t : rs2 < 32 = is_below rs2 32 (second_of_both (is_register rd && is_register rs1) _ made.passed) in
    let same = made.same in
    omega arith

i_fits : (w op f3 rd rs1 : ℕ) (imm : ℤ) → op < 2 ^ 7 → f3 < 2 ^ 3 → i_type op f3 rd rs1 imm ≡ Some w → w < 2 ^ 32
i_fits w op f3 rd rs1 imm o f e =
    let made = made_of (is_register rd && is_register rs1 && is_signed 12 imm) _ w e in
    let d : rd < 32 = is_below rd 32 (first_of_both _ _ (first_of_both _ _ made.passed)) in
    let s : rs1 < 32 = is_below rs1 32 (second_of_both (is_register rd) _ (first_of_both _ _ made.passed)) in
    let same = made.same in
    omega arith

shift_fits : (w op f3 f7 rd rs1 : ℕ) (imm : ℤ) → op < 2 ^ 7 → f3 < 2 ^ 3 → f7 < 2 ^ 7 → shift_type op f3 f7 rd rs1 imm ≡ Some w → w < 2 ^ 32
shift_fits w op f3 f7 rd rs1 imm o f g e =
    let made = made_of (is_register rd && is_register rs1 && is_unsigned 5 imm) _ w e in
    let d : rd < 32 = is_below rd 32 (first_of_both _ _ (first_of_both _ _ made.passed)) in
    let s : rs1 < 32 = is_below rs1 32 (second_of_both (is_register rd) _ (first_of_both _ _ made.passed)) in
    let same = made.same in
    omega arith

s_fits : (w op f3 rs1 rs2 : ℕ) (imm : ℤ) → op < 2 ^ 7 → f3 < 2 ^ 3 → s_type op f3 rs1 rs2 imm ≡ Some w → w < 2 ^ 32
s_fits w op f3 rs1 rs2 imm o f e =
    let made = made_of (is_register rs1 && is_register rs2 && is_signed 12 imm) _ w e in
    let d : rs1 < 32 = is_below rs1 32 (first_of_both _ _ (first_of_both _ _ made.passed)) in
    let s : rs2 < 32 = is_below rs2 32 (second_of_both (is_register rs1) _ (first_of_both _ _ made.passed)) in
    let same = made.same in
    omega arith

b_fits : (w op f3 rs1 rs2 : ℕ) (imm : ℤ) → op < 2 ^ 7 → f3 < 2 ^ 3 → b_type op f3 rs1 rs2 imm ≡ Some w → w < 2 ^ 32
b_fits w op f3 rs1 rs2 imm o f e =
    let made = made_of (is_register rs1 && is_register rs2 && is_signed 13 imm && is_even imm) _ w e in
    let registers = first_of_both (is_register rs1 && is_register rs2) (is_signed 13 imm) (first_of_both _ _ made.passed) in
    let d : rs1 < 32 = is_below rs1 32 (first_of_both _ _ registers) in
    let s : rs2 < 32 = is_below rs2 32 (second_of_both (is_register rs1) _ registers) in
    let same = made.same in
    omega arith

u_fits : (w op rd : ℕ) (imm : ℤ) → op < 2 ^ 7 → u_type op rd imm ≡ Some w → w < 2 ^ 32
u_fits w op rd imm o e =
    let made = made_of (is_register rd && is_unsigned 20 imm) _ w e in
    let d : rd < 32 = is_below rd 32 (first_of_both _ _ made.passed) in
    let same = made.same in
    omega arith

j_fits : (w op rd : ℕ) (imm : ℤ) → op < 2 ^ 7 → j_type op rd imm ≡ Some w → w < 2 ^ 32
j_fits w op rd imm o e =
    let made = made_of (is_register rd && is_signed 21 imm && is_even imm) _ w e in
    let d : rd < 32 = is_below rd 32 (first_of_both _ _ (first_of_both _ _ made.passed)) in
    let same = made.same in
    omega arith

csr_fits : (w op f3 rd rs1 csr : ℕ) → op < 2 ^ 7 → f3 < 2 ^ 3 → csr_type op f3 rd rs1 csr ≡ Some w → w < 2 ^ 32
csr_fits w op f3 rd rs1 csr o f e =
    let made = made_of (is_register rd && is_register rs1 && nat_lt csr 4096) _ w e in
    let d : rd < 32 = is_below rd 32 (first_of_both _ _ (first_of_both _ _ made.passed)) in
    let s : rs1 < 32 = is_below rs1 32 (second_of_both (is_register rd) _ (first_of_both _ _ made.passed)) in
    let t : csr < 4096 = is_below csr 4096 (second_of_both (is_register rd && is_register rs1) _ made.passed) in
    let same = made.same in
    omega arith

csr_immediate_fits : (w op f3 rd : ℕ) (imm : ℤ) (csr : ℕ) → op < 2 ^ 7 → f3 < 2 ^ 3 → csr_immediate_type op f3 rd imm csr ≡ Some w → w < 2 ^ 32
csr_immediate_fits w op f3 rd imm csr o f e =
    let made = made_of (is_register rd && is_unsigned 5 imm && nat_lt csr 4096) _ w e in
    let d : rd < 32 = is_below rd 32 (first_of_both _ _ (first_of_both _ _ made.passed)) in
    let t : csr < 4096 = is_below csr 4096 (second_of_both (is_register rd && is_unsigned 5 imm) _ made.passed) in
    let same = made.same in
    omega arith

is_zero : (n : ℕ) → (n == 0) ≡ true → n ≡ 0
is_zero n e = omega (arith, eqb-true)

fence_fits : (w op f3 bits : ℕ) → op < 2 ^ 7 → f3 < 2 ^ 3 → fence_type op f3 bits ≡ Some w → w < 2 ^ 32
fence_fits w op f3 bits o f e =
    let made = made_of (nat_lt bits (2 ^ 32) && slice bits 14 12 == 0 && slice bits 6 0 == 0) _ w e in
    let most : bits < 2 ^ 32 = is_below bits (2 ^ 32) (first_of_both _ _ (first_of_both _ _ made.passed)) in
    let middle : slice bits 14 12 ≡ 0 = is_zero _ (second_of_both (nat_lt bits (2 ^ 32)) _ (first_of_both _ _ made.passed)) in
    let low : slice bits 6 0 ≡ 0 = is_zero _ (second_of_both (nat_lt bits (2 ^ 32) && slice bits 14 12 == 0) _ made.passed) in
    let same = made.same in
    omega arith

the_word : (n w : ℕ) → n < 2 ^ 32 → Some n ≡ Some w → w < 2 ^ 32
the_word n w fits e = subst (λ k. k < 2 ^ 32) (inside n w e) fits
  where
    inside : (n w : ℕ) → Some n ≡ Some w → n ≡ w
    inside n w e = cc

pub encoded_fits : (i : Instr) (w : ℕ) → encoded i ≡ Some w → w < 2 ^ 32
unfolding encoded encoded_computation
encoded_fits (Addi rd rs1 imm) w e = i_fits w 0b0010011 0b000 rd rs1 imm (lit< tt) (lit< tt) e
encoded_fits (Slti rd rs1 imm) w e = i_fits w 0b0010011 0b010 rd rs1 imm (lit< tt) (lit< tt) e
encoded_fits (Sltiu rd rs1 imm) w e = i_fits w 0b0010011 0b011 rd rs1 imm (lit< tt) (lit< tt) e
encoded_fits (Xori rd rs1 imm) w e = i_fits w 0b0010011 0b100 rd rs1 imm (lit< tt) (lit< tt) e
encoded_fits (Ori rd rs1 imm) w e = i_fits w 0b0010011 0b110 rd rs1 imm (lit< tt) (lit< tt) e
encoded_fits (Andi rd rs1 imm) w e = i_fits w 0b0010011 0b111 rd rs1 imm (lit< tt) (lit< tt) e
encoded_fits (Slli rd rs1 imm) w e = shift_fits w 0b0010011 0b001 0b0000000 rd rs1 imm (lit< tt) (lit< tt) (lit< tt) e
encoded_fits (Srli rd rs1 imm) w e = shift_fits w 0b0010011 0b101 0b0000000 rd rs1 imm (lit< tt) (lit< tt) (lit< tt) e
encoded_fits (Srai rd rs1 imm) w e = shift_fits w 0b0010011 0b101 0b0100000 rd rs1 imm (lit< tt) (lit< tt) (lit< tt) e
encoded_fits (Add rd rs1 rs2) w e = r_fits w 0b0110011 0b000 0b0000000 rd rs1 rs2 (lit< tt) (lit< tt) (lit< tt) e
encoded_fits (Sub rd rs1 rs2) w e = r_fits w 0b0110011 0b000 0b0100000 rd rs1 rs2 (lit< tt) (lit< tt) (lit< tt) e
encoded_fits (Sll rd rs1 rs2) w e = r_fits w 0b0110011 0b001 0b0000000 rd rs1 rs2 (lit< tt) (lit< tt) (lit< tt) e
encoded_fits (Slt rd rs1 rs2) w e = r_fits w 0b0110011 0b010 0b0000000 rd rs1 rs2 (lit< tt) (lit< tt) (lit< tt) e
encoded_fits (Sltu rd rs1 rs2) w e = r_fits w 0b0110011 0b011 0b0000000 rd rs1 rs2 (lit< tt) (lit< tt) (lit< tt) e
encoded_fits (Xor rd rs1 rs2) w e = r_fits w 0b0110011 0b100 0b0000000 rd rs1 rs2 (lit< tt) (lit< tt) (lit< tt) e
encoded_fits (Srl rd rs1 rs2) w e = r_fits w 0b0110011 0b101 0b0000000 rd rs1 rs2 (lit< tt) (lit< tt) (lit< tt) e
encoded_fits (Sra rd rs1 rs2) w e = r_fits w 0b0110011 0b101 0b0100000 rd rs1 rs2 (lit< tt) (lit< tt) (lit< tt) e
encoded_fits (Or rd rs1 rs2) w e = r_fits w 0b0110011 0b110 0b0000000 rd rs1 rs2 (lit< tt) (lit< tt) (lit< tt) e
encoded_fits (And rd rs1 rs2) w e = r_fits w 0b0110011 0b111 0b0000000 rd rs1 rs2 (lit< tt) (lit< tt) (lit< tt) e
encoded_fits (Mul rd rs1 rs2) w e = r_fits w 0b0110011 0b000 0b0000001 rd rs1 rs2 (lit< tt) (lit< tt) (lit< tt) e
encoded_fits (Mulh rd rs1 rs2) w e = r_fits w 0b0110011 0b001 0b0000001 rd rs1 rs2 (lit< tt) (lit< tt) (lit< tt) e
encoded_fits (Mulhsu rd rs1 rs2) w e = r_fits w 0b0110011 0b010 0b0000001 rd rs1 rs2 (lit< tt) (lit< tt) (lit< tt) e
encoded_fits (Mulhu rd rs1 rs2) w e = r_fits w 0b0110011 0b011 0b0000001 rd rs1 rs2 (lit< tt) (lit< tt) (lit< tt) e
encoded_fits (Div rd rs1 rs2) w e = r_fits w 0b0110011 0b100 0b0000001 rd rs1 rs2 (lit< tt) (lit< tt) (lit< tt) e
encoded_fits (Divu rd rs1 rs2) w e = r_fits w 0b0110011 0b101 0b0000001 rd rs1 rs2 (lit< tt) (lit< tt) (lit< tt) e
encoded_fits (Rem rd rs1 rs2) w e = r_fits w 0b0110011 0b110 0b0000001 rd rs1 rs2 (lit< tt) (lit< tt) (lit< tt) e
encoded_fits (Remu rd rs1 rs2) w e = r_fits w 0b0110011 0b111 0b0000001 rd rs1 rs2 (lit< tt) (lit< tt) (lit< tt) e
encoded_fits (Csrrw rd rs1 csr) w e = csr_fits w 0b1110011 0b001 rd rs1 csr (lit< tt) (lit< tt) e
encoded_fits (Csrrs rd rs1 csr) w e = csr_fits w 0b1110011 0b010 rd rs1 csr (lit< tt) (lit< tt) e
encoded_fits (Csrrc rd rs1 csr) w e = csr_fits w 0b1110011 0b011 rd rs1 csr (lit< tt) (lit< tt) e
encoded_fits (Lui rd imm) w e = u_fits w 0b0110111 rd imm (lit< tt) e
encoded_fits (Auipc rd imm) w e = u_fits w 0b0010111 rd imm (lit< tt) e
encoded_fits (Jal rd imm) w e = j_fits w 0b1101111 rd imm (lit< tt) e
encoded_fits (Jalr rd rs1 imm) w e = i_fits w 0b1100111 0b000 rd rs1 imm (lit< tt) (lit< tt) e
encoded_fits (Beq rs1 rs2 imm) w e = b_fits w 0b1100011 0b000 rs1 rs2 imm (lit< tt) (lit< tt) e
encoded_fits (Bne rs1 rs2 imm) w e = b_fits w 0b1100011 0b001 rs1 rs2 imm (lit< tt) (lit< tt) e
encoded_fits (Blt rs1 rs2 imm) w e = b_fits w 0b1100011 0b100 rs1 rs2 imm (lit< tt) (lit< tt) e
encoded_fits (Bge rs1 rs2 imm) w e = b_fits w 0b1100011 0b101 rs1 rs2 imm (lit< tt) (lit< tt) e
encoded_fits (Bltu rs1 rs2 imm) w e = b_fits w 0b1100011 0b110 rs1 rs2 imm (lit< tt) (lit< tt) e
encoded_fits (Bgeu rs1 rs2 imm) w e = b_fits w 0b1100011 0b111 rs1 rs2 imm (lit< tt) (lit< tt) e
encoded_fits (Lb rd rs1 imm) w e = i_fits w 0b0000011 0b000 rd rs1 imm (lit< tt) (lit< tt) e
encoded_fits (Lh rd rs1 imm) w e = i_fits w 0b0000011 0b001 rd rs1 imm (lit< tt) (lit< tt) e
encoded_fits (Lw rd rs1 imm) w e = i_fits w 0b0000011 0b010 rd rs1 imm (lit< tt) (lit< tt) e
encoded_fits (Lbu rd rs1 imm) w e = i_fits w 0b0000011 0b100 rd rs1 imm (lit< tt) (lit< tt) e
encoded_fits (Lhu rd rs1 imm) w e = i_fits w 0b0000011 0b101 rd rs1 imm (lit< tt) (lit< tt) e
encoded_fits (Sb rs1 rs2 imm) w e = s_fits w 0b0100011 0b000 rs1 rs2 imm (lit< tt) (lit< tt) e
encoded_fits (Sh rs1 rs2 imm) w e = s_fits w 0b0100011 0b001 rs1 rs2 imm (lit< tt) (lit< tt) e
encoded_fits (Sw rs1 rs2 imm) w e = s_fits w 0b0100011 0b010 rs1 rs2 imm (lit< tt) (lit< tt) e
encoded_fits (Fence bits) w e = fence_fits w 0b0001111 0b000 bits (lit< tt) (lit< tt) e
encoded_fits (FenceI bits) w e = fence_fits w 0b0001111 0b001 bits (lit< tt) (lit< tt) e
encoded_fits Ecall w e = the_word 0x00000073 w (lit< tt) e
encoded_fits Ebreak w e = the_word 0x00100073 w (lit< tt) e
encoded_fits Mret w e = the_word 0x30200073 w (lit< tt) e
encoded_fits Wfi w e = the_word 0x10500073 w (lit< tt) e
encoded_fits (Csrrwi rd imm csr) w e = csr_immediate_fits w 0b1110011 0b101 rd imm csr (lit< tt) (lit< tt) e
encoded_fits (Csrrsi rd imm csr) w e = csr_immediate_fits w 0b1110011 0b110 rd imm csr (lit< tt) (lit< tt) e
encoded_fits (Csrrci rd imm csr) w e = csr_immediate_fits w 0b1110011 0b111 rd imm csr (lit< tt) (lit< tt) e
encoded_fits Illegal w e = cc
