-- A list in the order of time is what stands in it at one moment after another.
use Rattle.std.proofs.Common.{◌≡◌, ℕ, zero, suc, ◌<◌, ◌≤◌, Bool, true, false, not, ◌&&◌, eqb, ltb, List, [], ◌∷◌, ◌++◌, get_or, refl, ap, subst, sym, ◌∙◌, inl, inr, arith}
use Rattle.std.specs.List.{All, filter, flat_map}
use Rattle.std.specs.List.Sorted.{IsNonDecreasingBy, IsStableByKey, ties}
use Rattle.std.specs.Ordering.{nat_cmp, is_lt}
use Rattle.std.proofs.lemmas.Bool.{cases_order, lt-ltb, le-ltb, eq-eqb, ne_eqb, eqb-true}
use Rattle.std.proofs.lemmas.Bool.Decides.{nat_tests}
use Rattle.std.proofs.lemmas.List.Concat.{flat_map-append}
use Rattle.std.proofs.lemmas.List.Elements.{All-head, All-tail, filter_agree, filter_passes}

-- a test that no element passes, and one that each passes
filter-none : {X : Type 0} (p : X → Bool) (xs : List X) → All (λ x. p x ≡ false) xs → filter p xs ≡ []
filter-none p [] h = refl
filter-none p (x ∷ xs) h =
    let here : p x ≡ false = All-head (λ x. p x ≡ false) x xs h in
    rw here (filter-none p xs (All-tail (λ x. p x ≡ false) x xs h))

filter-each : {X : Type 0} (p : X → Bool) (xs : List X) → All (λ x. p x ≡ true) xs → filter p xs ≡ xs
filter-each p [] h = refl
filter-each p (x ∷ xs) h =
    let here : p x ≡ true = All-head (λ x. p x ≡ true) x xs h in
    rw here (ap (λ ys. x ∷ ys) (filter-each p xs (All-tail (λ x. p x ≡ true) x xs h)))

same_if_some : {X : Type 0} (p : X → Bool) (us vs : List X) → All (λ x. p x ≡ true) us → All (λ x. p x ≡ true) vs → ((x : X) → p x ≡ true → us ≡ vs) → us ≡ vs
same_if_some p [] [] on_us on_vs h = refl
same_if_some p [] (v ∷ vs) on_us on_vs h = h v (All-head (λ x. p x ≡ true) v vs on_vs)
same_if_some p (u ∷ us) vs on_us on_vs h = h u (All-head (λ x. p x ≡ true) u us on_us)

-- a filter keeps the same of two lists if it does where some element passes
filter-same : {X : Type 0} (p : X → Bool) (xs ys : List X) → ((x : X) → p x ≡ true → filter p ys ≡ filter p xs) → filter p ys ≡ filter p xs
filter-same p xs ys = same_if_some p (filter p ys) (filter p xs) (filter_passes p ys) (filter_passes p xs)

tie_is : (a b : ℕ) → (not (is_lt (nat_cmp a b)) && not (is_lt (nat_cmp b a))) ≡ eqb b a
tie_is a b = grind (arith, nat_tests)

-- what a function of the moments gives, one moment after another
abbrev pub until : {Y : Type 0} → (ℕ → List Y) → ℕ → List Y
until f zero = []
until f (suc t) = until f t ++ f t

module _ {X : Type 0} (at : X → ℕ) where
  -- the elements before t, and those at t
  abbrev pub before : ℕ → List X → List X
  before t xs = filter (λ x. ltb (at x) t) xs

  abbrev pub moment : ℕ → List X → List X
  moment t xs = filter (λ x. eqb (at x) t) xs

  rest_rises : (x : X) (xs : List X) → IsNonDecreasingBy at (x ∷ xs) → IsNonDecreasingBy at xs
  rest_rises x xs rises = λ i j d le lt. rises (suc i) (suc j) d (omega arith) (omega arith)

  none_before : (t : ℕ) (x : X) (xs : List X) → IsNonDecreasingBy at (x ∷ xs) → t ≤ at x → before t xs ≡ []
  none_before t x xs rises late =
      filter-none (λ x. ltb (at x) t) xs
      (λ k d lt. let later : at x ≤ at (get_or xs k d) = rises 0 (suc k) d (omega arith) (omega arith) in le-ltb (at (get_or xs k d)) t (omega arith))

  -- what is before the next moment is what is before t, and then what is at t
  before_more : (t : ℕ) (xs : List X) → IsNonDecreasingBy at xs → before (suc t) xs ≡ before t xs ++ moment t xs
  before_more t [] rises = refl
  before_more t (x ∷ xs) rises =
      let more = before_more t xs (rest_rises x xs rises) in
      elim (cases_order (at x) t) [
        | inl same ↦
            let below : ltb (at x) (suc t) ≡ true = lt-ltb (at x) (suc t) (omega arith) in
            let not_yet : ltb (at x) t ≡ false = le-ltb (at x) t (omega arith) in
            let here : eqb (at x) t ≡ true = eq-eqb (at x) t same in
            let none : before t xs ≡ [] = none_before t x xs rises (omega arith) in
            let rest : before (suc t) xs ≡ moment t xs = more ∙ ap (λ ys. ys ++ moment t xs) none in
            rw (below, not_yet, here, none, rest)
        | inr (inl early) ↦
            let below : ltb (at x) (suc t) ≡ true = lt-ltb (at x) (suc t) (omega arith) in
            let already : ltb (at x) t ≡ true = lt-ltb (at x) t early in
            let not_here : eqb (at x) t ≡ false = ne_eqb (at x) t (λ e. omega arith) in
            rw (below, already, not_here) (ap (λ ys. x ∷ ys) more)
        | inr (inr late) ↦
            let not_below : ltb (at x) (suc t) ≡ false = le-ltb (at x) (suc t) (omega arith) in
            let not_yet : ltb (at x) t ≡ false = le-ltb (at x) t (omega arith) in
            let not_here : eqb (at x) t ≡ false = ne_eqb (at x) t (λ e. omega arith) in
            rw (not_below, not_yet, not_here) more
      ]

  flat_map-before : {Y : Type 0} (f : X → List Y) (t : ℕ) (xs : List X) → IsNonDecreasingBy at xs → flat_map f (before t xs) ≡ until (λ s. flat_map f (moment s xs)) t
  flat_map-before f zero xs rises = ap (flat_map f) (filter-none (λ x. ltb (at x) 0) xs (λ k d lt. le-ltb (at (get_or xs k d)) 0 (omega arith)))
  flat_map-before f (suc t) xs rises =
      ap (flat_map f) (before_more t xs rises)
      ∙ flat_map-append f (before t xs) (moment t xs)
      ∙ ap (λ ys. ys ++ flat_map f (moment t xs)) (flat_map-before f t xs rises)

  pub flat_map-moments : {Y : Type 0} (f : X → List Y) (end : ℕ) (xs : List X) → IsNonDecreasingBy at xs → All (λ x. at x < end) xs → flat_map f xs ≡ until (λ t. flat_map f (moment t xs)) end
  flat_map-moments f end xs rises early =
      ap (flat_map f) (sym (filter-each (λ x. ltb (at x) end) xs (λ k d lt. lt-ltb (at (get_or xs k d)) end (early k d lt))))
      ∙ flat_map-before f end xs rises

  ties_moment : (x : X) (xs : List X) → filter (ties (λ a b. is_lt (nat_cmp (at a) (at b))) x) xs ≡ moment (at x) xs
  ties_moment x xs = filter_agree (ties (λ a b. is_lt (nat_cmp (at a) (at b))) x) (λ y. eqb (at y) (at x)) (λ y. tie_is (at x) (at y)) xs

  -- a stable sort keeps each moment
  pub moment-stable : (xs ys : List X) → IsStableByKey at nat_cmp xs ys → (t : ℕ) → moment t ys ≡ moment t xs
  moment-stable xs ys stable t =
      filter-same (λ x. eqb (at x) t) xs ys
      (λ x here.
      let IsKept : ℕ → Type 0 = λ s. moment s ys ≡ moment s xs in
      subst IsKept (eqb-true (at x) t here) (sym (ties_moment x ys) ∙ stable x ∙ ties_moment x xs))
