-- Elements of lists by their places, and the first part of a list.
use Rattle.std.proofs.Common.{◌≡◌, ℕ, zero, suc, ◌<◌, ◌≤◌, ◌⊎◌, inl, inr, List, [], ◌∷◌, ◌++◌, length, ap, sym, refl, ◌∙◌, subst, arith, length-append, append_assoc, append-nil}
use mathlib.Core.Option.{some, some-injective, some-ne-none}
use mathlib.Core.List.{IsPrefix}
use lib.ListN.{get_elem?}

module _ {A : Type 0} where
  pub below : (l : List A) (i : ℕ) (a : A) → get_elem? l i ≡ some a → i < length l
  below [] i a e = absurd (some-ne-none a (sym e))
  below (x ∷ xs) zero a e = omega arith
  below (x ∷ xs) (suc i) a e = let b = below xs i a e in omega arith

  pub element : (l : List A) (i : ℕ) → i < length l → (a : A) × (get_elem? l i ≡ some a)
  element [] i h = absurd (omega arith)
  element (x ∷ xs) zero h = (x, refl)
  element (x ∷ xs) (suc i) h = element xs i (omega arith)

  pub last_or_before : (l : List A) (x a : A) (i : ℕ) → get_elem? (l ++ x ∷ []) i ≡ some a → (get_elem? l i ≡ some a) ⊎ ((i ≡ length l) × (x ≡ a))
  last_or_before [] x a zero e = inr (refl, some-injective x a e)
  last_or_before [] x a (suc i) e = absurd (some-ne-none a (sym e))
  last_or_before (y ∷ ys) x a zero e = inl e
  last_or_before (y ∷ ys) x a (suc i) e = elim (last_or_before ys x a i e) [ inl b ↦ inl b | inr b ↦ inr (ap suc b.0, b.1) ]

  pub length-prefix : (front whole : List A) → IsPrefix front whole → length front ≤ length whole
  length-prefix front whole p = omega (arith, length-append front p.0, ap length p.1)

  pub prefix_more : (front whole more : List A) → IsPrefix front whole → IsPrefix front (whole ++ more)
  prefix_more front whole more p = (p.0 ++ more, sym (append_assoc front p.0 more) ∙ ap (λ l. l ++ more) p.1)

  next_of : (front later : List A) (a : A) → get_elem? (front ++ later) (length front) ≡ some a → IsPrefix (front ++ a ∷ []) (front ++ later)
  next_of [] [] a e = absurd (some-ne-none a (sym e))
  next_of [] (x ∷ xs) a e = (xs, ap (λ y. y ∷ xs) (sym (some-injective x a e)))
  next_of (x ∷ xs) later a e = let p = next_of xs later a e in (p.0, ap (λ l. x ∷ l) p.1)

  pub prefix_next : (front whole : List A) (a : A) → IsPrefix front whole → get_elem? whole (length front) ≡ some a → IsPrefix (front ++ a ∷ []) whole
  prefix_next front whole a p e = subst (λ l. IsPrefix (front ++ a ∷ []) l) p.1 (next_of front p.0 a (ap (λ l. get_elem? l (length front)) p.1 ∙ e))

  nothing_more : (front later : List A) → length later ≡ 0 → front ≡ front ++ later
  nothing_more front [] none = sym (append-nil front)
  nothing_more front (x ∷ xs) none = absurd (omega arith)

  pub whole_prefix : (front whole : List A) → IsPrefix front whole → length whole ≡ length front → front ≡ whole
  whole_prefix front whole p same = nothing_more front p.0 (omega (arith, length-append front p.0, ap length p.1)) ∙ p.1
