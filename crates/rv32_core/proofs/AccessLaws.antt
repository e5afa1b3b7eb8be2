-- What the code's casts and masks compute of an access, in the words of the definition.
use Rattle.std.proofs.Common.{◌≡◌, ℕ, suc, ◌-◌, ◌*◌, ◌%◌, ◌^◌, ◌<◌, Bool, true, false, nat_lt, if◌then◌else◌, ℤ, pos, negsuc, bit_and, w8, w16, w32, to_z, of_z, refl, sym, ◌∙◌, ap, arith}
use lib.Signed.{mag}
use Rattle.std.proofs.lemmas.Nat.{and_mask}
use Rattle.std.proofs.lemmas.Int.{to_z-of_z}
use Rattle.rv32_isa.specs.Bits.{signed, word_of}
use Rattle.rv32_core.specs.Accesses.{low_bytes}

pub low_byte : (word size : ℕ) → size ≡ 1 → bit_and word 255 ≡ low_bytes size word
low_byte word size e = and_mask word 8 ∙ ap (λ s. low_bytes s word) (sym e)

pub low_half : (word size : ℕ) → size ≡ 2 → bit_and word 65535 ≡ low_bytes size word
low_half word size e = and_mask word 16 ∙ ap (λ s. low_bytes s word) (sym e)

cast_is_word : (z : ℤ) (r : ℕ) → mag z < 2 ^ 31 → r ≡ of_z w32 (to_z w32 (of_z w32 z)) → r ≡ word_of z
cast_is_word z r small e = e ∙ (ap (of_z w32) (to_z-of_z w32 z (record { sfits = small })) ∙ bits z small)
  where
    bits : (z : ℤ) → mag z < 2 ^ 31 → of_z w32 z ≡ word_of z
    bits (pos n) h = omega arith
    bits (negsuc n) h = omega arith

-- a byte and a halfword with their signs
pub signed_byte : (word size : ℕ) (b i : ℤ) (r : ℕ) → size ≡ 1 → mag b < 2 ^ 7 → b ≡ to_z w8 (bit_and word 255) → i ≡ to_z w8 (of_z w8 b)
    → r ≡ of_z w32 (to_z w32 (of_z w32 i)) → r ≡ word_of (signed (8 * size) (low_bytes size word))
signed_byte word size b i r s small e f g =
    let same : i ≡ b = f ∙ to_z-of_z w8 b (record { sfits = small }) in
    let n : ℕ = word % 2 ^ 8 in
    let value : b ≡ signed 8 n =
    e ∙ (ap (to_z w8) (and_mask word 8) ∙ ap (λ m. if nat_lt n (2 ^ 7) then pos n else negsuc m) (let m : 2 ^ 8 - suc n ≡ 2 ^ 8 - 1 - n = omega arith in m)) in
    cast_is_word b r (omega arith) (g ∙ ap (λ z. of_z w32 (to_z w32 (of_z w32 z))) same)
    ∙ (ap word_of value ∙ ap (λ k. word_of (signed (8 * k) (low_bytes k word))) (sym s))

pub signed_half : (word size : ℕ) (b i : ℤ) (r : ℕ) → size ≡ 2 → mag b < 2 ^ 15 → b ≡ to_z w16 (bit_and word 65535) → i ≡ to_z w16 (of_z w16 b)
    → r ≡ of_z w32 (to_z w32 (of_z w32 i)) → r ≡ word_of (signed (8 * size) (low_bytes size word))
signed_half word size b i r s small e f g =
    let same : i ≡ b = f ∙ to_z-of_z w16 b (record { sfits = small }) in
    let n : ℕ = word % 2 ^ 16 in
    let value : b ≡ signed 16 n =
    e ∙ (ap (to_z w16) (and_mask word 16) ∙ ap (λ m. if nat_lt n (2 ^ 15) then pos n else negsuc m) (let m : 2 ^ 16 - suc n ≡ 2 ^ 16 - 1 - n = omega arith in m)) in
    cast_is_word b r (omega arith) (g ∙ ap (λ z. of_z w32 (to_z w32 (of_z w32 z))) same)
    ∙ (ap word_of value ∙ ap (λ k. word_of (signed (8 * k) (low_bytes k word))) (sym s))

-- a word has its sign already
whole : (n : ℕ) (b : Bool) → nat_lt n (2 ^ 31) ≡ b → n < 2 ^ 32 → n ≡ word_of (if b then pos n else negsuc (2 ^ 32 - 1 - n))
whole n true e h = omega arith
whole n false e h = omega arith

pub signed_word : (word size : ℕ) → size ≡ 4 → word < 2 ^ 32 → word ≡ word_of (signed (8 * size) (low_bytes size word))
signed_word word size s h =
    let same : word ≡ word % 2 ^ 32 = omega arith in
    whole word (nat_lt word (2 ^ 31)) refl h
    ∙ (ap (λ n. word_of (signed 32 n)) same ∙ ap (λ k. word_of (signed (8 * k) (low_bytes k word))) (sym s))
