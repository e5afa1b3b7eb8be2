-- Numbers in two's complement, to their bits and back.
use Rattle.std.proofs.Common.{◌≡◌, ℕ, ◌+◌, ◌-◌, ◌*◌, ◌%◌, ◌^◌, ◌<◌, ◌≤◌, Bool, true, false, nat_lt, if◌then◌else◌, ltb-true, ℤ, pos, negsuc, refl, sym, ◌∙◌, ap, arith, pow-add, pow_pos, pow_mono, add-mul, one-mul, mod-eq_of_lt}
use Rattle.std.proofs.lemmas.Nat.{mod-mul-add}
use Rattle.std.proofs.lemmas.Bool.Decides.{nat_tests}
use Rattle.rv32_isa.specs.Bits.{signed, word_of, is_signed}
use Rattle.rv32_isa.proofs.Words.{twice}

-- so many bits represent a number of their range
signed_at : (width bits half : ℕ) (b : Bool) → nat_lt bits half ≡ b → 2 ^ (width - 1) ≡ half → bits < 2 * half → is_signed width (if b then pos bits else negsuc (2 * half - 1 - bits)) ≡ true
signed_at width bits half true t e below = rw e t
signed_at width bits half false t e below = rw e (grind (arith, nat_tests))

pub is_signed-signed : (width bits : ℕ) → 0 < width → bits < 2 ^ width → is_signed width (signed width bits) ≡ true
is_signed-signed width bits some below =
    ap (λ n. is_signed width (if nat_lt bits (2 ^ (width - 1)) then pos bits else negsuc (n - 1 - bits))) (twice width some)
    ∙ signed_at width bits (2 ^ (width - 1)) (nat_lt bits (2 ^ (width - 1))) refl refl (omega (arith, twice width some))

-- the last bits of the word of a negative number
negative_ends : (whole times n : ℕ) → (times + 1) * whole ≡ 2 ^ 32 → n < whole → whole ≤ 2 ^ 32 → (2 ^ 32 - 1 - n % 2 ^ 32) % whole ≡ whole - 1 - n
negative_ends whole times n e below most =
    let small : n % 2 ^ 32 ≡ n = omega arith in
    let word : 2 ^ 32 - 1 - n % 2 ^ 32 ≡ times * whole + (whole - 1 - n) = omega (arith, e, add-mul times 1 whole, one-mul whole) in
    ap (λ x. x % whole) word ∙ mod-mul-add times whole (whole - 1 - n) (omega arith)

-- 2^32 is a multiple of each smaller power of two
times_of : (width : ℕ) → width ≤ 32 → (2 ^ (32 - width) - 1 + 1) * 2 ^ width ≡ 2 ^ 32
times_of width most =
    let k : 32 - width + width ≡ 32 = omega arith in
    ap (λ t. t * 2 ^ width) (let one : 2 ^ (32 - width) - 1 + 1 ≡ 2 ^ (32 - width) = omega (arith, pow_pos (32 - width)) in one)
    ∙ (sym (pow-add 2 (32 - width) width) ∙ ap (λ k. 2 ^ k) k)

word_at : (bits whole times : ℕ) (b : Bool) → (times + 1) * whole ≡ 2 ^ 32 → whole ≤ 2 ^ 32 → bits < whole
    → word_of (if b then pos bits else negsuc (whole - 1 - bits)) % whole ≡ bits
word_at bits whole times true e most below =
    let small : bits % 2 ^ 32 ≡ bits = omega arith in
    ap (λ x. x % whole) small ∙ mod-eq_of_lt below
word_at bits whole times false e most below = negative_ends whole times (whole - 1 - bits) e (omega arith) most ∙ omega arith

-- the word of the number that so many bits represent ends in those bits
pub word_of-signed : (width bits : ℕ) → width ≤ 32 → bits < 2 ^ width → word_of (signed width bits) % 2 ^ width ≡ bits
word_of-signed width bits most below =
    word_at bits (2 ^ width) (2 ^ (32 - width) - 1) (nat_lt bits (2 ^ (width - 1))) (times_of width most) (pow_mono most) below

-- a number of the range is what the last bits of its word represent
pub signed-word_of : (width : ℕ) (z : ℤ) → 0 < width → width ≤ 32 → is_signed width z ≡ true → signed width (word_of z % 2 ^ width) ≡ z
signed-word_of width (pos n) some most fits =
    let half : ℕ = 2 ^ (width - 1) in
    let whole : ℕ = 2 ^ width in
    let less : n < half = omega (arith, ltb-true) in
    let double : whole ≡ 2 * half = twice width some in
    let most' : whole ≤ 2 ^ 32 = pow_mono most in
    let small : n % 2 ^ 32 ≡ n = omega arith in
    let below : n < whole = omega arith in
    let same : n % 2 ^ 32 % whole ≡ n = ap (λ x. x % whole) small ∙ mod-eq_of_lt below in
    ap (signed width) same ∙ ap (λ b. if b then pos n else negsuc (whole - 1 - n)) fits
signed-word_of width (negsuc n) some most fits =
    let half : ℕ = 2 ^ (width - 1) in
    let whole : ℕ = 2 ^ width in
    let less : n < half = omega (arith, ltb-true) in
    let double : whole ≡ 2 * half = twice width some in
    let ends : (2 ^ 32 - 1 - n % 2 ^ 32) % whole ≡ whole - 1 - n = negative_ends whole (2 ^ (32 - width) - 1) n (times_of width most) (omega arith) (pow_mono most) in
    let high : nat_lt (whole - 1 - n) half ≡ false = grind (arith, nat_tests) in
    ap (signed width) ends
    ∙ (ap (λ b. if b then pos (whole - 1 - n) else negsuc (whole - 1 - (whole - 1 - n))) high ∙ ap negsuc (omega arith))
