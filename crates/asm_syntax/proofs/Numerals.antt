-- Reading digits may stop counting at a limit.
use Rattle.std.proofs.Common.{◌≡◌, ℕ, ◌+◌, ◌*◌, ◌^◌, ◌≤◌, ◌<◌, ⊎_elim, eq-or-lt_of_le, min, List, [], ◌∷◌, length, get_or, drop, Option, Some, None, option_map, option_and_then, refl, sym, ap, ◌∙◌, arith}
use Rattle.std.proofs.Math.Nat.{le-mul_of_pos_right}
use Rattle.std.proofs.lemmas.List.{at_drop_more}
use Rattle.cs_base.specs.Texts.{hexadecimal_value}
use Rattle.asm_syntax.specs.Numbers.{spelled_on, below}

abbrev pub limited : ℕ → ℕ
limited n = min n (2 ^ 33)

-- what matters of the number so far is what is limited of it
limited_step : (base m n digit : ℕ) → 1 ≤ base → limited m ≡ limited n → limited (m * base + digit) ≡ limited (n * base + digit)
limited_step base m n digit positive same = ⊎_elim at_limit below_limit (eq-or-lt_of_le within) where
  within : limited m ≤ 2 ^ 33
  within = omega arith

  at_limit : limited m ≡ 2 ^ 33 → limited (m * base + digit) ≡ limited (n * base + digit)
  at_limit full =
      let grows_m : m ≤ m * base = le-mul_of_pos_right m positive in
      let grows_n : n ≤ n * base = le-mul_of_pos_right n positive in
      omega arith

  below_limit : limited m < 2 ^ 33 → limited (m * base + digit) ≡ limited (n * base + digit)
  below_limit small =
      let equal : m ≡ n = omega arith in
      ap (λ k. limited (k * base + digit)) equal

pub spelled_on-limited : (base m n : ℕ) (bytes : List ℕ) → 1 ≤ base → limited m ≡ limited n → option_map limited (spelled_on base m bytes) ≡ option_map limited (spelled_on base n bytes)
spelled_on-limited base m n [] positive same = ap Some same
spelled_on-limited base m n (byte ∷ bytes) positive same =
    on_digit base m n bytes (below base (hexadecimal_value byte)) (λ digit. spelled_on-limited base (m * base + digit) (n * base + digit) bytes positive (limited_step base m n digit positive same))
  where
    on_digit : (base m n : ℕ) (bytes : List ℕ) (found : Option ℕ) → ((digit : ℕ) → option_map limited (spelled_on base (m * base + digit) bytes) ≡ option_map limited (spelled_on base (n * base + digit) bytes)) → option_map limited (option_and_then (λ digit. spelled_on base (m * base + digit) bytes) found) ≡ option_map limited (option_and_then (λ digit. spelled_on base (n * base + digit) bytes) found)
    on_digit base m n bytes None rest = refl
    on_digit base m n bytes (Some digit) rest = rest digit

-- one digit more
pub spelled_on-turn : (base n i digit : ℕ) (bytes : List ℕ) → i < length bytes → Some digit ≡ below base (hexadecimal_value (get_or bytes i 0)) → spelled_on base n (drop i bytes) ≡ spelled_on base (n * base + digit) (drop (i + 1) bytes)
spelled_on-turn base n i digit bytes within value =
    at_drop_more (spelled_on base n) bytes i 0 within
    ∙ ap (option_and_then (λ digit. spelled_on base (n * base + digit) (drop (i + 1) bytes))) (sym value)
