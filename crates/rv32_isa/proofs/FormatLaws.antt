-- For each format: the word of the fields that a word has is that word, and the fields of the word of some fields are those fields.
use Rattle.std.proofs.Common.{◌≡◌, ℕ, ◌+◌, ◌*◌, ◌/◌, ◌%◌, ◌^◌, ◌<◌, ◌≤◌, Bool, true, false, nat_lt, ◌==◌, ◌&&◌, if◌then◌else◌, ltb-true, ℤ, pos, negsuc, Some, None, refl, ◌∙◌, ap, arith}
use Rattle.std.proofs.lemmas.Bool.Decides.{nat_tests}
use Rattle.rv32_isa.specs.Bits.{slice, signed, word_of, is_signed, is_unsigned}
use Rattle.rv32_isa.specs.Formats.{opcode_in, rd_in, funct3_in, rs1_in, rs2_in, funct7_in, csr_in, fence_bits_in, i_immediate_in, s_immediate_in, b_immediate_in, u_immediate_in, j_immediate_in, shift_amount_in, csr_immediate_in, is_register, is_even, encoded_if, r_type, i_type, shift_type, s_type, b_type, u_type, j_type, csr_type, csr_immediate_type, fence_type}
use Rattle.rv32_isa.proofs.Immediates.{is_signed-signed, word_of-signed, signed-word_of}

-- ---- the word of the fields of a word

encodes : (b : Bool) (made word : ℕ) → b ≡ true → made ≡ word → encoded_if b made ≡ Some word
encodes b made word t e = ap (λ c. if c then Some made else None) t ∙ ap Some e

all_of : (a b : Bool) → a ≡ true → b ≡ true → (a && b) ≡ true
all_of a b s t = ap (λ c. c && b) s ∙ t

register : (n k : ℕ) → is_register (n / 2 ^ k % 2 ^ 5) ≡ true
register n k = grind (arith, nat_tests)

amount : (n k : ℕ) → is_unsigned 5 (pos (n / 2 ^ k % 2 ^ 5)) ≡ true
amount n k = grind (arith, nat_tests)

pub r_back : (w op f3 f7 : ℕ) → w < 2 ^ 32 → opcode_in w ≡ op → funct3_in w ≡ f3 → funct7_in w ≡ f7
    → r_type op f3 f7 (rd_in w) (rs1_in w) (rs2_in w) ≡ Some w
r_back w op f3 f7 fits o f g =
    encodes _ _ _ (all_of _ _ (all_of _ _ (register w 7) (register w 15)) (register w 20)) (omega arith)

pub i_back : (w op f3 : ℕ) → w < 2 ^ 32 → opcode_in w ≡ op → funct3_in w ≡ f3
    → i_type op f3 (rd_in w) (rs1_in w) (i_immediate_in w) ≡ Some w
i_back w op f3 fits o f =
    let n : ℕ = slice w 31 20 in
    let ends = word_of-signed 12 n (omega arith) (omega arith) in
    encodes _ _ _ (all_of _ _ (all_of _ _ (register w 7) (register w 15)) (is_signed-signed 12 n (omega arith) (omega arith)))
    (omega (arith, ends))

pub shift_back : (w op f3 f7 : ℕ) → w < 2 ^ 32 → opcode_in w ≡ op → funct3_in w ≡ f3 → funct7_in w ≡ f7
    → shift_type op f3 f7 (rd_in w) (rs1_in w) (shift_amount_in w) ≡ Some w
shift_back w op f3 f7 fits o f g =
    encodes _ _ _ (all_of _ _ (all_of _ _ (register w 7) (register w 15)) (amount w 20)) (omega arith)

pub s_back : (w op f3 : ℕ) → w < 2 ^ 32 → opcode_in w ≡ op → funct3_in w ≡ f3
    → s_type op f3 (rs1_in w) (rs2_in w) (s_immediate_in w) ≡ Some w
s_back w op f3 fits o f =
    let n : ℕ = slice w 31 25 * 2 ^ 5 + slice w 11 7 in
    let ends = word_of-signed 12 n (omega arith) (omega arith) in
    encodes _ _ _ (all_of _ _ (all_of _ _ (register w 15) (register w 20)) (is_signed-signed 12 n (omega arith) (omega arith)))
    (omega (arith, ends))

even : (x : ℕ) → x % 2 ≡ 0 → (x % 2 == 0) ≡ true
even x e = grind (arith, nat_tests)

pub b_back : (w op f3 : ℕ) → w < 2 ^ 32 → opcode_in w ≡ op → funct3_in w ≡ f3
    → b_type op f3 (rs1_in w) (rs2_in w) (b_immediate_in w) ≡ Some w
b_back w op f3 fits o f =
    let n : ℕ = slice w 31 31 * 2 ^ 12 + slice w 7 7 * 2 ^ 11 + slice w 30 25 * 2 ^ 5 + slice w 11 8 * 2 in
    let ends = word_of-signed 13 n (omega arith) (omega arith) in
    encodes _ _ _
    (all_of _ _
    (all_of _ _ (all_of _ _ (register w 15) (register w 20)) (is_signed-signed 13 n (omega arith) (omega arith)))
    (even (word_of (signed 13 n)) (omega (arith, ends))))
    (omega (arith, ends))

pub u_back : (w op : ℕ) → w < 2 ^ 32 → opcode_in w ≡ op → u_type op (rd_in w) (u_immediate_in w) ≡ Some w
u_back w op fits o =
    let n : ℕ = slice w 31 12 in
    let small : nat_lt n (2 ^ 20) ≡ true = grind (arith, nat_tests) in
    encodes _ _ _ (all_of _ _ (register w 7) small) (omega arith)

pub j_back : (w op : ℕ) → w < 2 ^ 32 → opcode_in w ≡ op → j_type op (rd_in w) (j_immediate_in w) ≡ Some w
j_back w op fits o =
    let n : ℕ = slice w 31 31 * 2 ^ 20 + slice w 19 12 * 2 ^ 12 + slice w 20 20 * 2 ^ 11 + slice w 30 21 * 2 in
    let ends = word_of-signed 21 n (omega arith) (omega arith) in
    encodes _ _ _
    (all_of _ _ (all_of _ _ (register w 7) (is_signed-signed 21 n (omega arith) (omega arith)))
    (even (word_of (signed 21 n)) (omega (arith, ends))))
    (omega (arith, ends))

csr_number : (n : ℕ) → nat_lt (n / 2 ^ 20 % 2 ^ 12) 4096 ≡ true
csr_number n = grind (arith, nat_tests)

pub csr_back : (w op f3 : ℕ) → w < 2 ^ 32 → opcode_in w ≡ op → funct3_in w ≡ f3
    → csr_type op f3 (rd_in w) (rs1_in w) (csr_in w) ≡ Some w
csr_back w op f3 fits o f =
    encodes _ _ _ (all_of _ _ (all_of _ _ (register w 7) (register w 15)) (csr_number w)) (omega arith)

pub csr_immediate_back : (w op f3 : ℕ) → w < 2 ^ 32 → opcode_in w ≡ op → funct3_in w ≡ f3
    → csr_immediate_type op f3 (rd_in w) (csr_immediate_in w) (csr_in w) ≡ Some w
csr_immediate_back w op f3 fits o f =
    encodes _ _ _ (all_of _ _ (all_of _ _ (register w 7) (amount w 15)) (csr_number w)) (omega arith)

pub fence_back : (w op f3 : ℕ) → w < 2 ^ 32 → opcode_in w ≡ op → funct3_in w ≡ f3 → fence_type op f3 (fence_bits_in w) ≡ Some w
fence_back w op f3 fits o f =
    let bits : ℕ = fence_bits_in w in
    let small : nat_lt bits (2 ^ 32) ≡ true = grind (arith, nat_tests) in
    let middle : slice bits 14 12 ≡ 0 = omega arith in
    let low : slice bits 6 0 ≡ 0 = omega arith in
    encodes _ _ _ (all_of _ _ (all_of _ _ small (ap (λ x. x == 0) middle)) (ap (λ x. x == 0) low)) (omega arith)

-- ---- the fields of the word of some fields

-- a format's word was made: its test passed
pub record Made (in_range : Bool) (made word : ℕ) : Type 0 where
  pub passed : in_range ≡ true
  pub same : made ≡ word

pub made_of : (b : Bool) (made word : ℕ) → encoded_if b made ≡ Some word → Made b made word
made_of true made word e = record { passed = refl; same = cc }
made_of false made word e = cc

first_of_both : (a b : Bool) → (a && b) ≡ true → a ≡ true
first_of_both true b e = refl
first_of_both false b e = e

second_of_both : (a b : Bool) → (a && b) ≡ true → b ≡ true
second_of_both true b e = e
second_of_both false b e = cc

is_below : (n k : ℕ) → nat_lt n k ≡ true → n < k
is_below n k e = omega (arith, ltb-true)

-- a number that is not negative is its word
pub record IsSmall (width : ℕ) (z : ℤ) : Type 0 where
  pub below : word_of z < 2 ^ width
  pub same : pos (word_of z) ≡ z

small_at : (width bound : ℕ) (z : ℤ) → 2 ^ width ≡ bound → bound ≤ 2 ^ 32 → is_unsigned width z ≡ true → IsSmall width z
small_at width bound (pos n) e most fits =
    let below : n < 2 ^ width = is_below n (2 ^ width) fits in
    record { below = omega (arith, e); same = ap pos (omega (arith, e)) }
small_at width bound (negsuc n) e most fits = cc

-- the fields that each format gives back
pub record RFields (w op f3 f7 rd rs1 rs2 : ℕ) : Type 0 where
  pub opcode : opcode_in w ≡ op
  pub funct3 : funct3_in w ≡ f3
  pub funct7 : funct7_in w ≡ f7
  pub destination : rd_in w ≡ rd
  pub first : rs1_in w ≡ rs1
  pub second : rs2_in w ≡ rs2

pub r_fields : (w op f3 f7 rd rs1 rs2 : ℕ) → op < 2 ^ 7 → f3 < 2 ^ 3 → f7 < 2 ^ 7 → r_type op f3 f7 rd rs1 rs2 ≡ Some w
    → RFields w op f3 f7 rd rs1 rs2
r_fields w op f3 f7 rd rs1 rs2 o f g e =
    let made = made_of (is_register rd && is_register rs1 && is_register rs2) _ w e in
    let d : rd < 32 = is_below rd 32 (first_of_both _ _ (first_of_both _ _ made.passed)) in
    let s : rs1 < 32 = is_below rs1 32 (second_of_both (is_register rd) _ (first_of_both _ _ made.passed)) in
    let t : rs2 < 32 = is_below rs2 32 (second_of_both (is_register rd && is_register rs1) _ made.passed) in
    let same = made.same in
    record {
      opcode = omega arith;
      funct3 = omega arith;
      funct7 = omega arith;
      destination = omega arith;
      first = omega arith;
      second = omega arith;
    }

pub record IFields (w op f3 rd rs1 : ℕ) (imm : ℤ) : Type 0 where
  pub opcode : opcode_in w ≡ op
  pub funct3 : funct3_in w ≡ f3
  pub destination : rd_in w ≡ rd
  pub first : rs1_in w ≡ rs1
  pub immediate : i_immediate_in w ≡ imm

pub i_fields : (w op f3 rd rs1 : ℕ) (imm : ℤ) → op < 2 ^ 7 → f3 < 2 ^ 3 → i_type op f3 rd rs1 imm ≡ Some w → IFields w op f3 rd rs1 imm
i_fields w op f3 rd rs1 imm o f e =
    let made = made_of (is_register rd && is_register rs1 && is_signed 12 imm) _ w e in
    let d : rd < 32 = is_below rd 32 (first_of_both _ _ (first_of_both _ _ made.passed)) in
    let s : rs1 < 32 = is_below rs1 32 (second_of_both (is_register rd) _ (first_of_both _ _ made.passed)) in
    let same = made.same in
    let bits : slice w 31 20 ≡ word_of imm % 2 ^ 12 = omega arith in
    record {
      opcode = omega arith;
      funct3 = omega arith;
      destination = omega arith;
      first = omega arith;
      immediate = ap (signed 12) bits
          ∙ signed-word_of 12 imm (omega arith) (omega arith) (second_of_both (is_register rd && is_register rs1) _ made.passed);
    }

pub record ShiftFields (w op f3 f7 rd rs1 : ℕ) (imm : ℤ) : Type 0 where
  pub opcode : opcode_in w ≡ op
  pub funct3 : funct3_in w ≡ f3
  pub funct7 : funct7_in w ≡ f7
  pub destination : rd_in w ≡ rd
  pub first : rs1_in w ≡ rs1
  pub amount : shift_amount_in w ≡ imm

pub shift_fields : (w op f3 f7 rd rs1 : ℕ) (imm : ℤ) → op < 2 ^ 7 → f3 < 2 ^ 3 → f7 < 2 ^ 7 → shift_type op f3 f7 rd rs1 imm ≡ Some w
    → ShiftFields w op f3 f7 rd rs1 imm
shift_fields w op f3 f7 rd rs1 imm o f g e =
    let made = made_of (is_register rd && is_register rs1 && is_unsigned 5 imm) _ w e in
    let d : rd < 32 = is_below rd 32 (first_of_both _ _ (first_of_both _ _ made.passed)) in
    let s : rs1 < 32 = is_below rs1 32 (second_of_both (is_register rd) _ (first_of_both _ _ made.passed)) in
    let small = small_at 5 32 imm refl (omega arith) (second_of_both (is_register rd && is_register rs1) _ made.passed) in
    let same = made.same in
    let below = small.below in
    record {
      opcode = omega arith;
      funct3 = omega arith;
      funct7 = omega arith;
      destination = omega arith;
      first = omega arith;
      amount = ap pos (let bits : slice w 24 20 ≡ word_of imm = omega arith in bits) ∙ small.same;
    }

-- a store's fields and, with its own offset, a branch's
pub record SFields (w op f3 rs1 rs2 : ℕ) (offset imm : ℤ) : Type 0 where
  pub opcode : opcode_in w ≡ op
  pub funct3 : funct3_in w ≡ f3
  pub first : rs1_in w ≡ rs1
  pub second : rs2_in w ≡ rs2
  pub immediate : offset ≡ imm

pub s_fields : (w op f3 rs1 rs2 : ℕ) (imm : ℤ) → op < 2 ^ 7 → f3 < 2 ^ 3 → s_type op f3 rs1 rs2 imm ≡ Some w
    → SFields w op f3 rs1 rs2 (s_immediate_in w) imm
s_fields w op f3 rs1 rs2 imm o f e =
    let made = made_of (is_register rs1 && is_register rs2 && is_signed 12 imm) _ w e in
    let s : rs1 < 32 = is_below rs1 32 (first_of_both _ _ (first_of_both _ _ made.passed)) in
    let t : rs2 < 32 = is_below rs2 32 (second_of_both (is_register rs1) _ (first_of_both _ _ made.passed)) in
    let same = made.same in
    let bits : slice w 31 25 * 2 ^ 5 + slice w 11 7 ≡ word_of imm % 2 ^ 12 = omega arith in
    record {
      opcode = omega arith;
      funct3 = omega arith;
      first = omega arith;
      second = omega arith;
      immediate = ap (signed 12) bits
          ∙ signed-word_of 12 imm (omega arith) (omega arith) (second_of_both (is_register rs1 && is_register rs2) _ made.passed);
    }

even_from : (x : ℕ) → (x == 0) ≡ true → x ≡ 0
even_from x e = grind (arith, nat_tests)

pub b_fields : (w op f3 rs1 rs2 : ℕ) (imm : ℤ) → op < 2 ^ 7 → f3 < 2 ^ 3 → b_type op f3 rs1 rs2 imm ≡ Some w
    → SFields w op f3 rs1 rs2 (b_immediate_in w) imm
b_fields w op f3 rs1 rs2 imm o f e =
    let made = made_of (is_register rs1 && is_register rs2 && is_signed 13 imm && is_even imm) _ w e in
    let fields = first_of_both (is_register rs1 && is_register rs2 && is_signed 13 imm) (is_even imm) made.passed in
    let s : rs1 < 32 = is_below rs1 32 (first_of_both _ _ (first_of_both _ _ fields)) in
    let t : rs2 < 32 = is_below rs2 32 (second_of_both (is_register rs1) _ (first_of_both _ _ fields)) in
    let even : word_of imm % 2 ≡ 0 = even_from _ (second_of_both (is_register rs1 && is_register rs2 && is_signed 13 imm) _ made.passed) in
    let same = made.same in
    let bits : slice w 31 31 * 2 ^ 12 + slice w 7 7 * 2 ^ 11 + slice w 30 25 * 2 ^ 5 + slice w 11 8 * 2 ≡ word_of imm % 2 ^ 13 = omega arith in
    record {
      opcode = omega arith;
      funct3 = omega arith;
      first = omega arith;
      second = omega arith;
      immediate = ap (signed 13) bits
          ∙ signed-word_of 13 imm (omega arith) (omega arith) (second_of_both (is_register rs1 && is_register rs2) _ fields);
    }

-- the fields of an upper immediate and, with its own offset, a jump's
pub record UFields (w op rd : ℕ) (offset imm : ℤ) : Type 0 where
  pub opcode : opcode_in w ≡ op
  pub destination : rd_in w ≡ rd
  pub immediate : offset ≡ imm

pub u_fields : (w op rd : ℕ) (imm : ℤ) → op < 2 ^ 7 → u_type op rd imm ≡ Some w → UFields w op rd (u_immediate_in w) imm
u_fields w op rd imm o e =
    let made = made_of (is_register rd && is_unsigned 20 imm) _ w e in
    let d : rd < 32 = is_below rd 32 (first_of_both _ _ made.passed) in
    let small = small_at 20 (2 ^ 20) imm refl (omega arith) (second_of_both (is_register rd) _ made.passed) in
    let same = made.same in
    let below = small.below in
    record {
      opcode = omega arith;
      destination = omega arith;
      immediate = ap pos (let bits : slice w 31 12 ≡ word_of imm = omega arith in bits) ∙ small.same;
    }

pub j_fields : (w op rd : ℕ) (imm : ℤ) → op < 2 ^ 7 → j_type op rd imm ≡ Some w → UFields w op rd (j_immediate_in w) imm
j_fields w op rd imm o e =
    let made = made_of (is_register rd && is_signed 21 imm && is_even imm) _ w e in
    let fields = first_of_both (is_register rd && is_signed 21 imm) (is_even imm) made.passed in
    let d : rd < 32 = is_below rd 32 (first_of_both _ _ fields) in
    let even : word_of imm % 2 ≡ 0 = even_from _ (second_of_both (is_register rd && is_signed 21 imm) _ made.passed) in
    let same = made.same in
    let bits : slice w 31 31 * 2 ^ 20 + slice w 19 12 * 2 ^ 12 + slice w 20 20 * 2 ^ 11 + slice w 30 21 * 2 ≡ word_of imm % 2 ^ 21 = omega arith in
    record {
      opcode = omega arith;
      destination = omega arith;
      immediate = ap (signed 21) bits ∙ signed-word_of 21 imm (omega arith) (omega arith) (second_of_both (is_register rd) _ fields);
    }

pub record CsrFields (w op f3 rd rs1 csr : ℕ) : Type 0 where
  pub opcode : opcode_in w ≡ op
  pub funct3 : funct3_in w ≡ f3
  pub destination : rd_in w ≡ rd
  pub first : rs1_in w ≡ rs1
  pub number : csr_in w ≡ csr

pub csr_fields : (w op f3 rd rs1 csr : ℕ) → op < 2 ^ 7 → f3 < 2 ^ 3 → csr_type op f3 rd rs1 csr ≡ Some w → CsrFields w op f3 rd rs1 csr
csr_fields w op f3 rd rs1 csr o f e =
    let made = made_of (is_register rd && is_register rs1 && nat_lt csr 4096) _ w e in
    let d : rd < 32 = is_below rd 32 (first_of_both _ _ (first_of_both _ _ made.passed)) in
    let s : rs1 < 32 = is_below rs1 32 (second_of_both (is_register rd) _ (first_of_both _ _ made.passed)) in
    let c : csr < 4096 = is_below csr 4096 (second_of_both (is_register rd && is_register rs1) _ made.passed) in
    let same = made.same in
    record {
      opcode = omega arith;
      funct3 = omega arith;
      destination = omega arith;
      first = omega arith;
      number = omega arith;
    }

pub record CsrImmediateFields (w op f3 rd : ℕ) (imm : ℤ) (csr : ℕ) : Type 0 where
  pub opcode : opcode_in w ≡ op
  pub funct3 : funct3_in w ≡ f3
  pub destination : rd_in w ≡ rd
  pub immediate : csr_immediate_in w ≡ imm
  pub number : csr_in w ≡ csr

pub csr_immediate_fields : (w op f3 rd : ℕ) (imm : ℤ) (csr : ℕ) → op < 2 ^ 7 → f3 < 2 ^ 3 → csr_immediate_type op f3 rd imm csr ≡ Some w
    → CsrImmediateFields w op f3 rd imm csr
csr_immediate_fields w op f3 rd imm csr o f e =
    let made = made_of (is_register rd && is_unsigned 5 imm && nat_lt csr 4096) _ w e in
    let d : rd < 32 = is_below rd 32 (first_of_both _ _ (first_of_both _ _ made.passed)) in
    let small = small_at 5 32 imm refl (omega arith) (second_of_both (is_register rd) _ (first_of_both _ _ made.passed)) in
    let c : csr < 4096 = is_below csr 4096 (second_of_both (is_register rd && is_unsigned 5 imm) _ made.passed) in
    let same = made.same in
    let below = small.below in
    record {
      opcode = omega arith;
      funct3 = omega arith;
      destination = omega arith;
      immediate = ap pos (let bits : slice w 19 15 ≡ word_of imm = omega arith in bits) ∙ small.same;
      number = omega arith;
    }

pub record FenceFields (w op f3 bits : ℕ) : Type 0 where
  pub opcode : opcode_in w ≡ op
  pub funct3 : funct3_in w ≡ f3
  pub rest : fence_bits_in w ≡ bits

pub fence_fields : (w op f3 bits : ℕ) → op < 2 ^ 7 → f3 < 2 ^ 3 → fence_type op f3 bits ≡ Some w → FenceFields w op f3 bits
fence_fields w op f3 bits o f e =
    let made = made_of (nat_lt bits (2 ^ 32) && slice bits 14 12 == 0 && slice bits 6 0 == 0) _ w e in
    let first = first_of_both (nat_lt bits (2 ^ 32) && slice bits 14 12 == 0) _ made.passed in
    let small : bits < 2 ^ 32 = is_below bits (2 ^ 32) (first_of_both _ (slice bits 14 12 == 0) first) in
    let middle : slice bits 14 12 ≡ 0 = even_from _ (second_of_both (nat_lt bits (2 ^ 32)) _ first) in
    let low : slice bits 6 0 ≡ 0 = even_from _ (second_of_both (nat_lt bits (2 ^ 32) && slice bits 14 12 == 0) _ made.passed) in
    let same = made.same in
    record {
      opcode = omega arith;
      funct3 = omega arith;
      rest = omega arith;
    }
