-- What is read is in its range.
use Rattle.std.proofs.Common.{◌≡◌, ℕ, ◌<◌, ◌≤◌, Bool, true, false, ◌&&◌, nat_lt, ℤ, pos, negsuc, nat_abs, ◌≤ℤ◌, int_le, List, Option, Some, None, ok_or, Result, Ok, Err, IfOk, if◌then◌else◌, refl, arith, ltb-true}
use Rattle.std.proofs.lemmas.Int.{ints}
use Rattle.asm_syntax.specs.declared.line.LineBad.{LineBad}
use Rattle.asm_syntax.specs.declared.line.LineBad.TheVariants.{BadLine, UnknownWord, BadRegister, OutOfRange}
use Rattle.asm_syntax.specs.declared.class.Class.TheVariants.{Name}
use Rattle.asm_syntax.specs.declared.range.Range.{Range}
use Rattle.asm_syntax.specs.declared.range.Range.TheVariants.{CsrNumber, Space}
use Rattle.asm_syntax.specs.Bytes.{are_all, is_name}
use Rattle.asm_syntax.specs.Faults.{both, ◌>>=◌}
use Rattle.asm_syntax.specs.Numbers.{in_range, number_of, least, greatest, size_outside}
use Rattle.asm_syntax.specs.Places.{register, number, natural, csr}
use Rattle.asm_syntax.specs.Registers.{numbered_rows, abi_rows, csr_rows, register_named, csr_named}
use Rattle.asm_syntax.specs.Rows.{select}
use Rattle.asm_syntax.proofs.Names.{Passes, select_passes, or_passes}

-- ---- results

pub any : {A : Type 0} (r : Result A LineBad) → IfOk r (λ _. Unit {0})
any (Ok x) = tt
any (Err bad) = tt

pub then_ok : {A B : Type 0} (r : Result A LineBad) (f : A → Result B LineBad) (P : A → Type 0) (Q : B → Type 0) → IfOk r P → ((x : A) → P x → IfOk (f x) Q) → IfOk (r >>= f) Q
then_ok (Ok x) f P Q holds next = next x holds
then_ok (Err bad) f P Q holds next = tt

pub both_ok : {A B : Type 0} (a : Result A LineBad) (b : Result B LineBad) (P : A → Type 0) (Q : B → Type 0) → IfOk a P → IfOk b Q → IfOk (both a b) (λ x. P x.0 × Q x.1)
both_ok (Ok a) (Ok b) P Q holds holds' = (holds, holds')
both_ok (Ok a) (Err bad) P Q holds holds' = tt
both_ok (Err bad) (Ok b) P Q holds holds' = tt
both_ok (Err bad) (Err other) P Q holds holds' = tt

-- ---- registers and CSRs

found_below : (limit : ℕ) (found : Option ℕ) (bad : LineBad) → Passes (λ n. nat_lt n limit) found → IfOk (ok_or found bad) (λ n. n < limit)
found_below limit (Some n) bad passed = omega (arith, ltb-true)
found_below limit None bad passed = tt

abbrev is_register : ℕ → Bool
is_register n = nat_lt n 32

pub register_ok : (word : List ℕ) → IfOk (register word) (λ n. n < 32)
unfolding register numbered_rows abi_rows
register_ok word = at (are_all Name word) (found_below 32 (register_named word) BadRegister (or_passes is_register (select word numbered_rows) (select word abi_rows) (select_passes is_register word numbered_rows refl) (select_passes is_register word abi_rows refl)))
  where
    at : (shaped : Bool) → IfOk (ok_or (register_named word) BadRegister) (λ n. n < 32) → IfOk (if shaped then ok_or (register_named word) BadRegister else Err BadLine) (λ n. n < 32)
    at true holds = holds
    at false holds = tt

-- ---- numbers

pub record IsWithin (range : Range) (z : ℤ) : Type 0 where
  pub low : least range ≤ℤ z
  pub high : z ≤ℤ greatest range

in_range_ok : (range : Range) (number : Option ℤ) → IfOk (in_range range number) (IsWithin range)
in_range_ok range None = tt
in_range_ok range (Some z) = at (int_le (least range) z) (int_le z (greatest range)) refl refl
  where
    at : (a b : Bool) → int_le (least range) z ≡ a → int_le z (greatest range) ≡ b → IfOk (if a && b then Ok z else Err (OutOfRange (size_outside range))) (IsWithin range)
    at true true low high = record { low = grind (arith, ints); high = grind (arith, ints) }
    at true false low high = tt
    at false b low high = tt

pub number_ok : (range : Range) (word : List ℕ) → IfOk (number range word) (IsWithin range)
unfolding number
number_ok range word = in_range_ok range (number_of word)

abs_within : (most : ℕ) (z : ℤ) → pos 0 ≤ℤ z → z ≤ℤ pos most → nat_abs z ≤ most
abs_within most (pos n) low high = omega (arith, ints)
abs_within most (negsuc n) low high = absurd (omega (arith, ints))

pub zeros_ok : (word : List ℕ) → IfOk (natural Space word) (λ n. n ≤ 16777216)
zeros_ok word = then_ok (number Space word) (λ n. Ok (nat_abs n)) (IsWithin Space) (λ n. n ≤ 16777216) (number_ok Space word) (λ n within. abs_within 16777216 n within.low within.high)

pub csr_ok : (word : List ℕ) → IfOk (csr word) (λ n. n < 4096)
unfolding csr csr_rows
csr_ok word = at (is_name word) (found_below 4096 (csr_named word) UnknownWord (select_passes (λ n. nat_lt n 4096) word csr_rows refl)) numbered
  where
    numbered : IfOk (natural CsrNumber word) (λ n. n < 4096)
    numbered = then_ok (number CsrNumber word) (λ n. Ok (nat_abs n)) (IsWithin CsrNumber) (λ n. n < 4096) (number_ok CsrNumber word) (λ n within. let bound : nat_abs n ≤ 4095 = abs_within 4095 n within.low within.high in omega arith)

    at : (named : Bool) → IfOk (ok_or (csr_named word) UnknownWord) (λ n. n < 4096) → IfOk (natural CsrNumber word) (λ n. n < 4096) → IfOk (if named then ok_or (csr_named word) UnknownWord else natural CsrNumber word) (λ n. n < 4096)
    at true holds other = holds
    at false holds other = other
