-- A store keeps RAM's length.
use Rattle.std.specs.Prelude.{ℕ, ◌≡◌, ◌+◌, ◌-◌, ◌≤◌, zero, suc, Bool, true, false, List, ◌++◌, length, take, drop, replicate, if◌then◌else◌, refl}
use Rattle.std.proofs.Common.{ap, sym, subst, arith, length-append, length-take, length-drop}
use Rattle.std.proofs.lemmas.List.{length-replicate}
use Rattle.std.proofs.lemmas.Bool.Decides.{nat_tests}
use Rattle.std.specs.Int.{bytes_low_first}
use Rattle.ram_map.specs.Contents.{filled, is_within, overwritten, copied_in, stored}

length_low_first : (i k n : ℕ) → length (bytes_low_first i k n) ≡ k
length_low_first i zero n = refl
length_low_first i (suc k) n = ap suc (length_low_first (suc i) k n)

overwritten_length : (ram new : List ℕ) (at : ℕ) → at + length new ≤ length ram → length (overwritten ram at new) ≡ length ram
overwritten_length ram new at fits =
    omega (arith, length-append (take at ram) (new ++ drop (at + length new) ram), length-append new (drop (at + length new) ram), length-take at ram, length-drop (at + length new) ram)

pub copied_in_length : (ram : List ℕ) (at : ℕ) (bytes : List ℕ) → length (copied_in ram at bytes) ≡ length ram
copied_in_length ram at bytes = here (is_within ram at (length bytes)) refl
  where
    here : (b : Bool) → is_within ram at (length bytes) ≡ b → length (if b then overwritten ram at bytes else ram) ≡ length ram
    here true is = overwritten_length ram bytes at (grind (arith, nat_tests, is))
    here false is = refl

pub stored_length : (ram : List ℕ) (at size value : ℕ) → length (stored ram at size value) ≡ length ram
stored_length ram at size value = here (is_within ram at size) refl
  where
    here : (b : Bool) → is_within ram at size ≡ b → length (if b then overwritten ram at (bytes_low_first 0 size value) else ram) ≡ length ram
    here true is =
        let fits : at + size ≤ length ram = grind (arith, nat_tests, is) in
        overwritten_length ram (bytes_low_first 0 size value) at (subst (λ (n : ℕ). at + n ≤ length ram) (sym (length_low_first 0 size value)) fits)
    here false is = refl

pub filled_length : (len : ℕ) (image : List ℕ) → length image ≤ len → length (filled len image) ≡ len
filled_length len image fits = omega (arith, length-append image (replicate (len - length image) 0), length-replicate {A = ℕ} (len - length image) 0)
