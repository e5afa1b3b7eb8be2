-- The least place at which two texts differ is where they come apart.
use Rattle.std.specs.Prelude.{Bool, true, false, ◌==◌, ◌≢◌, if◌then◌else◌, Option, Some, None, MatchOption, IsNone, ◌↔◌, slice_get}
use Rattle.std.proofs.Common.{◌≡◌, ℕ, zero, suc, ◌+◌, ◌<◌, ◌≤◌, List, [], ◌∷◌, ◌++◌, length, take, drop, ap, sym, refl, subst, arith, ◌∙◌}
use Rattle.std.proofs.lemmas.Bool.Decides.{nat_tests}
use mathlib.Core.List.{IsPrefix}
use Rattle.lane_kernels.specs.Difference.{difference_at, first_difference_of}
use Rattle.lane_kernels.specs.declared.differ.Differ.{Differ}
use Rattle.tcp_proxy.specs.Comparing.{Differs, IsFirstDiffer, ComesApart}

same_byte : (x y : ℕ) → (x == y) ≡ true → x ≡ y
same_byte x y e = grind (arith, nat_tests)

other_byte : (x y : ℕ) → (x == y) ≡ false → x ≡ y → ⊥
other_byte x y e same = grind (arith, nat_tests)

-- one equal byte before
further : (x y : ℕ) (a b : List ℕ) (n : ℕ) (there : Option ℕ) → x ≡ y → MatchOption there (IsPrefix b a) (λ byte. Differs a b n byte) → MatchOption there (IsPrefix (y ∷ b) (x ∷ a)) (λ byte. Differs (x ∷ a) (y ∷ b) (suc n) byte)
further x y a b n None same prefix = (prefix.0, ap (λ l. y ∷ l) prefix.1 ∙ ap (λ z. z ∷ a) (sym same))
further x y a b n (Some byte) same d = record { before = ap (λ z. z ∷ take n b) (sym same) ∙ ap (λ l. x ∷ l) d.before; other = d.other }

some_byte : (x y : ℕ) → Some x ≡ Some y → x ≡ y
some_byte x y e = cc

apart_here : (x y : ℕ) (a b : List ℕ) → (x == y) ≡ false → Differs (x ∷ a) (y ∷ b) 0 y
apart_here x y a b e = record { before = refl; other = λ same. other_byte x y e (some_byte x y same) }

-- where no place below both lengths differs
unparted_step : (k x y : ℕ) (a b : List ℕ) (t : Bool) → (x == y) ≡ t → (if t then difference_at (k + 1) a b else Some k) ≡ None → (difference_at (k + 1) a b ≡ None → ComesApart a b (length a)) → ComesApart (x ∷ a) (y ∷ b) (length (x ∷ a))
unparted_step k x y a b true same rest later = further x y a b (length a) (slice_get b (length a)) (same_byte x y same) (later rest)
unparted_step k x y a b false same rest later = cc

unparted : (k : ℕ) (a b : List ℕ) → difference_at k a b ≡ None → ComesApart a b (length a)
unparted k [] [] e = ([], refl)
unparted k [] (y ∷ b) e = record { before = refl; other = λ same. cc }
unparted k (x ∷ a) [] e = (x ∷ a, refl)
unparted k (x ∷ a) (y ∷ b) e = unparted_step k x y a b (x == y) refl e (λ rest. unparted (k + 1) a b rest)

-- where one does
record PartsFrom (k : ℕ) (a b : List ℕ) (at : ℕ) : Type 0 where
  on : ℕ
  place : at ≡ k + on
  apart : ComesApart a b on

some_is : (k at : ℕ) → Some k ≡ Some at → k ≡ at
some_is k at e = cc

parted_step : (k x y : ℕ) (a b : List ℕ) (at : ℕ) (t : Bool) → (x == y) ≡ t → (if t then difference_at (k + 1) a b else Some k) ≡ Some at → (difference_at (k + 1) a b ≡ Some at → PartsFrom (k + 1) a b at) → PartsFrom k (x ∷ a) (y ∷ b) at
parted_step k x y a b at true same rest more =
    let later = more rest in
    let place : at ≡ k + 1 + later.on = later.place in
    record {
      on = suc later.on;
      place = omega arith;
      apart = further x y a b later.on (slice_get b later.on) (same_byte x y same) later.apart;
    }
parted_step k x y a b at false same rest more =
    let here : k ≡ at = some_is k at rest in
    record { on = 0; place = omega arith; apart = apart_here x y a b same }

parted : (k : ℕ) (a b : List ℕ) (at : ℕ) → difference_at k a b ≡ Some at → PartsFrom k a b at
parted k [] b at e = cc
parted k (x ∷ a) [] at e = cc
parted k (x ∷ a) (y ∷ b) at e = parted_step k x y a b at (x == y) refl e (λ rest. parted (k + 1) a b at rest)

pub comes_apart : (a b : List ℕ) (at : ℕ) → first_difference_of a b ≡ Some at → ComesApart a b at
comes_apart a b at e =
    let p = parted 0 a b at e in
    let place : at ≡ p.on = (let is : at ≡ 0 + p.on = p.place in omega arith) in
    subst (ComesApart a b) (sym place) p.apart

pub never_apart : (a b : List ℕ) → first_difference_of a b ≡ None → ComesApart a b (length a)
never_apart a b e = unparted 0 a b e

-- what differs somewhere is no beginning
front_get : (b t : List ℕ) (n x : ℕ) → slice_get b n ≡ Some x → slice_get (b ++ t) n ≡ Some x
front_get [] t n x e = cc
front_get (y ∷ b) t zero x e = e
front_get (y ∷ b) t (suc n) x e = front_get b t n x e

pub not_prefix : (a b : List ℕ) (n x : ℕ) → slice_get b n ≡ Some x → Differs a b n x → IsPrefix b a → ⊥
not_prefix a b n x there d prefix = d.other (ap (λ l. slice_get l n) (sym prefix.1) ∙ front_get b prefix.0 n x there)

pub is_prefix : (a b : List ℕ) (n : ℕ) (there : Option ℕ) → slice_get b n ≡ there → there ≡ None → ComesApart a b n → IsPrefix b a
is_prefix a b n there is none apart = subst (λ (o : Option ℕ). MatchOption o (IsPrefix b a) (λ byte. Differs a b n byte)) (is ∙ none) apart

pub is_differs : (a b : List ℕ) (n x : ℕ) → slice_get b n ≡ Some x → ComesApart a b n → Differs a b n x
is_differs a b n x is apart = subst (λ (o : Option ℕ). MatchOption o (IsPrefix b a) (λ byte. Differs a b n byte)) is apart
