-- Sums over the elements of a list, of which one changes.
use Rattle.std.proofs.Common.{◌≡◌, ℕ, zero, suc, ◌+◌, List, [], ◌∷◌, Some, refl, ap, ap₂, ◌∙◌, sym, arith}
use Rattle.std.specs.Prelude.{slice_get}
use Rattle.std.proofs.lemmas.Option.{none-some, same_Some}
use Rattle.sync_laws.specs.ToCome.{total}

pub total_same : {X : Type 0} (f g : ℕ → X → ℕ) (xs : List X) → ((i : ℕ) (x : X) → slice_get xs i ≡ Some x → f i x ≡ g i x) → total f xs ≡ total g xs
unfolding total
total_same f g [] same = refl
total_same f g (x ∷ xs) same = ap₂ ◌+◌ (same 0 x refl) (total_same (λ i. f (suc i)) (λ i. g (suc i)) xs (λ i y is. same (suc i) y is))

one_less : (a a' b b' : ℕ) → a ≡ a' + 1 → b ≡ b' → a + b ≡ (a' + b') + 1
one_less a a' b b' first others = omega arith

later_less : (a a' b b' : ℕ) → a ≡ a' → b ≡ b' + 1 → a + b ≡ (a' + b') + 1
later_less a a' b b' first others = omega arith

pub total_less : {X : Type 0} (f g : ℕ → X → ℕ) (xs : List X) (k : ℕ) (x : X) → slice_get xs k ≡ Some x → f k x ≡ g k x + 1 → ((i : ℕ) (y : X) → (i ≡ k → ⊥) → slice_get xs i ≡ Some y → f i y ≡ g i y) → total f xs ≡ total g xs + 1
unfolding total
total_less f g [] k x is here others = absurd (none-some x is)
total_less f g (y ∷ ys) zero x is here others = one_less (f 0 y) (g 0 y) _ _ (ap (f 0) same ∙ here ∙ ap (λ z. g 0 z + 1) (sym same)) (total_same (λ i. f (suc i)) (λ i. g (suc i)) ys (λ i z there. others (suc i) z (λ e. omega arith) there))
  where
    same : y ≡ x
    same = same_Some y x is
total_less f g (y ∷ ys) (suc k) x is here others = later_less (f 0 y) (g 0 y) _ _ (others 0 y (λ e. omega arith) refl) (total_less (λ i. f (suc i)) (λ i. g (suc i)) ys k x is here (λ i z differ there. others (suc i) z (λ e. differ (let same : i ≡ k = omega arith in same)) there))

none_more : (a b : ℕ) → a ≡ 0 → b ≡ 0 → a + b ≡ 0
none_more a b first others = omega arith

pub total_none : {X : Type 0} (f : ℕ → X → ℕ) (xs : List X) → ((i : ℕ) (x : X) → slice_get xs i ≡ Some x → f i x ≡ 0) → total f xs ≡ 0
unfolding total
total_none f [] none = refl
total_none f (x ∷ xs) none = none_more (f 0 x) _ (none 0 x refl) (total_none (λ i. f (suc i)) xs (λ i y is. none (suc i) y is))
