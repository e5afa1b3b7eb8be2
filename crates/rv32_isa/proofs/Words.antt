-- What the code's shifts, masks and casts compute, in the words of the definition.
use Rattle.std.proofs.Common.{◌≡◌, ℕ, suc, ◌+◌, ◌-◌, ◌*◌, ◌/◌, ◌%◌, ◌^◌, ◌<◌, ◌≤◌, Bool, true, false, nat_lt, ℤ, pos, negsuc, bit_or, bit_and, cond, w32, to_z, of_z, SFits, refl, sym, ◌∙◌, ap, arith, pow_mono, pow-add, pow_pos, if◌then◌else◌, ltb-true, ltb-false, mul-lt-mul_of_pos_right, mul-le-mul_right, mul-div_cancel, lt_of_le_of_lt, add-mul, mul_assoc, one-mul}
use lib.Signed.{shr_z, mag_shr}
use Rattle.std.proofs.lemmas.Nat.{and_mask, or_shifted, shr_split, one_shl, shl_whole, div-mul-add}
use Rattle.std.proofs.lemmas.Bool.Decides.{nat_tests}
use Rattle.std.proofs.lemmas.Int.{to_z-of_z, to_z_pos}
use Rattle.rv32_isa.specs.Bits.{slice, signed, word_of, is_signed, is_unsigned}

-- an `|` of numbers that share no bit is their sum
pub or_apart : (a b k : ℕ) → a % 2 ^ k ≡ 0 → b < 2 ^ k → bit_or a b ≡ a + b
or_apart a b k low below =
    let whole : a / 2 ^ k * 2 ^ k ≡ a = omega (arith, shr_split a k) in
    ap (λ x. bit_or x b) (sym whole) ∙ (or_shifted (a / 2 ^ k) k b below ∙ ap (λ x. x + b) whole)

-- a cast of a signed number to its bits gives the definition's word
pub bits_are_word : (z : ℤ) → SFits w32 z → of_z w32 z ≡ word_of z
bits_are_word (pos n) fits = omega (arith, fits.sfits)
bits_are_word (negsuc n) fits = omega (arith, fits.sfits)

pub cast_is_word : (z : ℤ) (n : ℕ) → SFits w32 z → n ≡ of_z w32 (to_z w32 (of_z w32 z)) → n ≡ word_of z
cast_is_word z n fits e = e ∙ (ap (of_z w32) (to_z-of_z w32 z fits) ∙ bits_are_word z fits)

pub twice : (width : ℕ) → 0 < width → 2 ^ width ≡ 2 * 2 ^ (width - 1)
twice width some = ap (λ k. 2 ^ k) (let e : width ≡ 1 + (width - 1) = omega arith in e) ∙ pow-add 2 1 (width - 1)

signed_tells : (z : ℤ) (width half : ℕ) → SFits w32 z → 2 ^ (width - 1) ≡ half → half ≤ 2 ^ 30
    → nat_lt ((of_z w32 z + half) % 2 ^ 32) (2 * half) ≡ is_signed width z
signed_tells (pos n) width half fits f le = rw f (grind (arith, nat_tests, fits.sfits))
signed_tells (negsuc n) width half fits f le = rw f (grind (arith, nat_tests, fits.sfits))

-- the test of `is_signed`
pub signed_test : (z : ℤ) (width bits : ℕ) → SFits w32 z → 0 < width → width ≤ 31 → bits ≡ of_z w32 (to_z w32 (of_z w32 z))
    → nat_lt ((bits + 1 * 2 ^ (width - 1) % 2 ^ 32) % 2 ^ 32) (1 * 2 ^ width % 2 ^ 32) ≡ is_signed width z
signed_test z width bits fits some most e =
    let half = 2 ^ (width - 1) in
    let exponent : width - 1 ≤ 30 = omega arith in
    let low : half ≤ 2 ^ 30 = pow_mono exponent in
    let bound : 1 * 2 ^ width % 2 ^ 32 ≡ 2 * half = one_shl width 32 (omega arith) ∙ twice width some in
    ap (λ x. nat_lt ((x + 1 * half % 2 ^ 32) % 2 ^ 32) (1 * 2 ^ width % 2 ^ 32)) (e ∙ ap (of_z w32) (to_z-of_z w32 z fits))
    ∙ (ap (λ x. nat_lt ((of_z w32 z + x) % 2 ^ 32) (1 * 2 ^ width % 2 ^ 32)) (one_shl (width - 1) 32 (omega arith))
    ∙ (ap (λ x. nat_lt ((of_z w32 z + half) % 2 ^ 32) x) bound ∙ signed_tells z width half fits refl low))

unsigned_tells : (z : ℤ) (width bound : ℕ) → SFits w32 z → 2 ^ width ≡ bound → bound ≤ 2 ^ 31 → nat_lt (of_z w32 z) bound ≡ is_unsigned width z
unsigned_tells (pos n) width bound fits e le = rw e refl
unsigned_tells (negsuc n) width bound fits e le = grind (arith, nat_tests, fits.sfits)

-- the test of `is_unsigned`
pub unsigned_test : (z : ℤ) (width bits : ℕ) → SFits w32 z → width ≤ 31 → bits ≡ of_z w32 (to_z w32 (of_z w32 z))
    → nat_lt bits (1 * 2 ^ width % 2 ^ 32) ≡ is_unsigned width z
unsigned_test z width bits fits most e =
    let low : 2 ^ width ≤ 2 ^ 31 = pow_mono most in
    ap (λ x. nat_lt x (1 * 2 ^ width % 2 ^ 32)) (e ∙ ap (of_z w32) (to_z-of_z w32 z fits))
    ∙ (ap (λ x. nat_lt (of_z w32 z) x) (one_shl width 32 (omega arith)) ∙ unsigned_tells z width (2 ^ width) fits refl low)

-- three and four numbers that share no bit
pub or_three : (a b c i j : ℕ) → a % 2 ^ i ≡ 0 → b < 2 ^ i → (a + b) % 2 ^ j ≡ 0 → c < 2 ^ j → bit_or (bit_or a b) c ≡ a + b + c
or_three a b c i j a0 b0 ab c0 = ap (λ x. bit_or x c) (or_apart a b i a0 b0) ∙ or_apart (a + b) c j ab c0

pub or_four : (a b c d i j k : ℕ) → a % 2 ^ i ≡ 0 → b < 2 ^ i → (a + b) % 2 ^ j ≡ 0 → c < 2 ^ j → (a + b + c) % 2 ^ k ≡ 0 → d < 2 ^ k
    → bit_or (bit_or (bit_or a b) c) d ≡ a + b + c + d
or_four a b c d i j k a0 b0 ab c0 abc d0 = ap (λ x. bit_or x d) (or_three a b c i j a0 b0 ab c0) ∙ or_apart (a + b + c) d k abc d0

-- the word of bits 31 to 20 and the fields below them, and that of bits 31 to 12
pub assembled_is : (top rs1 funct3 rd opcode : ℕ) → top < 2 ^ 12 → rs1 < 2 ^ 5 → funct3 < 2 ^ 3 → rd < 2 ^ 5 → opcode < 2 ^ 7
    → bit_or (bit_or (bit_or (bit_or (top * 2 ^ 20 % 2 ^ 32) (rs1 * 2 ^ 15 % 2 ^ 32)) (funct3 * 2 ^ 12 % 2 ^ 32)) (rd * 2 ^ 7 % 2 ^ 32)) opcode
    ≡ top * 2 ^ 20 + rs1 * 2 ^ 15 + funct3 * 2 ^ 12 + rd * 2 ^ 7 + opcode
assembled_is t r f d o t' r' f' d' o' =
    let T : ℕ = t * 2 ^ 20 % 2 ^ 32 in
    let R : ℕ = r * 2 ^ 15 % 2 ^ 32 in
    let F : ℕ = f * 2 ^ 12 % 2 ^ 32 in
    let D : ℕ = d * 2 ^ 7 % 2 ^ 32 in
    ap (λ x. bit_or x o) (or_four T R F D 20 15 12 (omega arith) (omega arith) (omega arith) (omega arith) (omega arith) (omega arith))
    ∙ (or_apart (T + R + F + D) o 7 (omega arith) (omega arith) ∙ omega arith)

pub assembled_upper_is : (top rd opcode : ℕ) → top < 2 ^ 20 → rd < 2 ^ 5 → opcode < 2 ^ 7
    → bit_or (bit_or (top * 2 ^ 12 % 2 ^ 32) (rd * 2 ^ 7 % 2 ^ 32)) opcode ≡ top * 2 ^ 12 + rd * 2 ^ 7 + opcode
assembled_upper_is t d o t' d' o' =
    or_three (t * 2 ^ 12 % 2 ^ 32) (d * 2 ^ 7 % 2 ^ 32) o 12 7 (omega arith) (omega arith) (omega arith) (omega arith) ∙ omega arith

-- the offset of a branch and that of a jump, before their signs are extended
pub b_offset : (word sign : ℕ) → sign ≡ slice word 31 31
    → bit_or (bit_or (bit_or (sign * 2 ^ 12 % 2 ^ 32) (bit_and (word / 2 ^ 7) 1 * 2 ^ 11 % 2 ^ 32)) (bit_and (word / 2 ^ 25) 63 * 2 ^ 5 % 2 ^ 32)) (bit_and (word / 2 ^ 8) 15 * 2 % 2 ^ 32)
    ≡ slice word 31 31 * 2 ^ 12 + slice word 7 7 * 2 ^ 11 + slice word 30 25 * 2 ^ 5 + slice word 11 8 * 2
b_offset word sign e =
    let one = and_mask (word / 2 ^ 7) 1 in
    let two = and_mask (word / 2 ^ 25) 6 in
    let three = and_mask (word / 2 ^ 8) 4 in
    rw (e, one, two, three)
    (or_four (slice word 31 31 * 2 ^ 12 % 2 ^ 32) (slice word 7 7 * 2 ^ 11 % 2 ^ 32) (slice word 30 25 * 2 ^ 5 % 2 ^ 32) (slice word 11 8 * 2 % 2 ^ 32)
    12 11 5 (omega arith) (omega arith) (omega arith) (omega arith) (omega arith) (omega arith) ∙ omega arith)

pub j_offset : (word sign : ℕ) → sign ≡ slice word 31 31
    → bit_or (bit_or (bit_or (sign * 2 ^ 20 % 2 ^ 32) (bit_and (word / 2 ^ 12) 255 * 2 ^ 12 % 2 ^ 32)) (bit_and (word / 2 ^ 20) 1 * 2 ^ 11 % 2 ^ 32)) (bit_and (word / 2 ^ 21) 1023 * 2 % 2 ^ 32)
    ≡ slice word 31 31 * 2 ^ 20 + slice word 19 12 * 2 ^ 12 + slice word 20 20 * 2 ^ 11 + slice word 30 21 * 2
j_offset word sign e =
    let one = and_mask (word / 2 ^ 12) 8 in
    let two = and_mask (word / 2 ^ 20) 1 in
    let three = and_mask (word / 2 ^ 21) 10 in
    rw (e, one, two, three)
    (or_four (slice word 31 31 * 2 ^ 20 % 2 ^ 32) (slice word 19 12 * 2 ^ 12 % 2 ^ 32) (slice word 20 20 * 2 ^ 11 % 2 ^ 32) (slice word 30 21 * 2 % 2 ^ 32)
    20 12 11 (omega arith) (omega arith) (omega arith) (omega arith) (omega arith) (omega arith) ∙ omega arith)

-- a shift that brings the highest bit to the sign's place, and the shift back, which copies it
extended_at : (bits half power : ℕ) (b : Bool) → nat_lt bits half ≡ b → half * power ≡ 2 ^ 31 → 0 < power → bits < 2 * half
    → shr_z (to_z w32 (bits * power)) power ≡ cond b (pos bits) (negsuc (2 * half - 1 - bits))
extended_at bits half power true t e some below =
    let less : bits < half = omega (arith, ltb-true) in
    let small : bits * power < 2 ^ 31 = omega (arith, e, mul-lt-mul_of_pos_right less some) in
    rw (to_z_pos w32 (bits * power) small) (ap pos (mul-div_cancel bits some))
extended_at bits half power false t e some below =
    let more : half ≤ bits = omega (arith, ltb-false) in
    let large : 2 ^ 31 ≤ bits * power = omega (arith, e, mul-le-mul_right power more) in
    let rest : ℕ = 2 * half - 1 - bits in
    let whole : rest + bits + 1 ≡ 2 * half = omega arith in
    let product : rest * power + bits * power + power ≡ 2 ^ 32 =
    let same : (rest + bits + 1) * power ≡ 2 * half * power = ap (λ n. n * power) whole in
    omega (arith, e, same, add-mul (rest + bits) 1 power, add-mul rest bits power, mul_assoc 2 half power, one-mul power) in
    let not_less : nat_lt (bits * power) (2 ^ 31) ≡ false = grind (arith, nat_tests) in
    let negative : to_z w32 (bits * power) ≡ negsuc (rest * power + (power - 1)) =
    ap (λ b. cond b (pos (bits * power)) (negsuc (2 ^ 32 - suc (bits * power)))) not_less ∙ ap negsuc (omega arith) in
    rw negative (ap negsuc (div-mul-add rest power (power - 1) (omega arith)))

pub extended_is : (width bits : ℕ) (r : ℤ) → 0 < width → width ≤ 32 → bits < 2 ^ width → SFits w32 r → r ≡ to_z w32 (bits * 2 ^ (32 - width) % 2 ^ 32)
    → to_z w32 (of_z w32 (shr_z (to_z w32 (of_z w32 r)) (2 ^ (32 - width)))) ≡ signed width bits
extended_is width bits r some most below fits e =
    let power : ℕ = 2 ^ (32 - width) in
    let half : ℕ = 2 ^ (width - 1) in
    let whole : bits * power % 2 ^ 32 ≡ bits * power = shl_whole bits width (32 - width) 32 below (omega arith) in
    let halves : half * power ≡ 2 ^ 31 = sym (pow-add 2 (width - 1) (32 - width)) ∙ ap (λ k. 2 ^ k) (let k : width - 1 + (32 - width) ≡ 31 = omega arith in k) in
    let shifted : SFits w32 (shr_z r power) = record { sfits = lt_of_le_of_lt (mag_shr r power) fits.sfits } in
    ap (λ z. to_z w32 (of_z w32 (shr_z z power))) (to_z-of_z w32 r fits)
    ∙ (to_z-of_z w32 (shr_z r power) shifted
    ∙ (ap (λ z. shr_z z power) (e ∙ ap (to_z w32) whole)
    ∙ (extended_at bits half power (nat_lt bits half) refl halves (pow_pos (32 - width)) (omega (arith, twice width some))
    ∙ ap (λ n. if nat_lt bits half then pos bits else negsuc (n - 1 - bits)) (sym (twice width some)))))
