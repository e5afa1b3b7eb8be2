-- Lists: an element that was written, and the one element that passes a test.
use Rattle.std.proofs.Common.{◌≡◌, ℕ, zero, suc, ◌<◌, ◌≤◌, Bool, true, false, cond, List, [], ◌∷◌, ◌++◌, length, map, filter, find, Some, slice_get, slice_set, refl, sym, ap, ◌∙◌, arith}
use Rattle.std.proofs.lemmas.Bool.{cond_both, cond-true, cond-false, false≢true}
use Rattle.std.proofs.lemmas.List.{nil_from_length}
use Rattle.std.proofs.lemmas.Option.{none-some, same_Some}
use Rattle.std.specs.List.{AllByRecursion}

-- a written element is there, and the others are as they were
pub slice_get-set_same : {X : Type 0} (xs : List X) (i : ℕ) (x y : X) → slice_get xs i ≡ Some x → slice_get (slice_set xs i y) i ≡ Some y
slice_get-set_same [] i x y is = absurd (none-some x is)
slice_get-set_same (z ∷ zs) zero x y is = refl
slice_get-set_same (z ∷ zs) (suc i) x y is = slice_get-set_same zs i x y is

pub slice_get-set_other : {X : Type 0} (xs : List X) (i j : ℕ) (y : X) → (i ≡ j → ⊥) → slice_get (slice_set xs i y) j ≡ slice_get xs j
slice_get-set_other [] i j y differ = refl
slice_get-set_other (z ∷ zs) zero zero y differ = absurd (differ refl)
slice_get-set_other (z ∷ zs) zero (suc j) y differ = refl
slice_get-set_other (z ∷ zs) (suc i) zero y differ = refl
slice_get-set_other (z ∷ zs) (suc i) (suc j) y differ = slice_get-set_other zs i j y (λ e. differ (ap suc e))

-- an element that passes a test is kept
pub kept : {X : Type 0} (p : X → Bool) (xs : List X) (i : ℕ) (x : X) → slice_get xs i ≡ Some x → p x ≡ true → 1 ≤ length (filter p xs)
kept p [] i x is passes = absurd (none-some x is)
kept p (y ∷ ys) zero x is passes = cond_both (p y) (y ∷ filter p ys) (filter p ys) (λ l. 1 ≤ length l) (λ _. omega arith) (λ fails. absurd (false≢true (sym fails ∙ ap p (same_Some y x is) ∙ passes)))
kept p (y ∷ ys) (suc i) x is passes = cond_both (p y) (y ∷ filter p ys) (filter p ys) (λ l. 1 ≤ length l) (λ _. omega arith) (λ _. kept p ys i x is passes)

-- the only element that passes is what is kept
pub only_kept : {X : Type 0} (p : X → Bool) (xs : List X) (i : ℕ) (x : X) → slice_get xs i ≡ Some x → p x ≡ true → length (filter p xs) ≡ 1 → filter p xs ≡ x ∷ []
only_kept p [] i x is passes one = absurd (none-some x is)
only_kept p (y ∷ ys) zero x is passes one = cond-true (p y) (y ∷ filter p ys) (filter p ys) head_passes ∙ ap (λ l. y ∷ l) (nil_from_length (filter p ys) none) ∙ ap (λ z. z ∷ []) same
  where
    same : y ≡ x
    same = same_Some y x is

    head_passes : p y ≡ true
    head_passes = ap p same ∙ passes

    none : length (filter p ys) ≡ 0
    none = let both : suc (length (filter p ys)) ≡ 1 = ap length (sym (cond-true (p y) (y ∷ filter p ys) (filter p ys) head_passes)) ∙ one in omega arith
only_kept p (y ∷ ys) (suc i) x is passes one = from (λ one'. only_kept p ys i x is passes one') (p y) one
  where
    from : (length (filter p ys) ≡ 1 → filter p ys ≡ x ∷ []) → (b : Bool) → length (cond b (y ∷ filter p ys) (filter p ys)) ≡ 1 → cond b (y ∷ filter p ys) (filter p ys) ≡ x ∷ []
    from rest true one' = let more : 1 ≤ length (filter p ys) = kept p ys i x is passes in absurd (let two : suc (length (filter p ys)) ≡ 1 = one' in omega arith)
    from rest false one' = rest one'

-- the first element, or else y
abbrev pub head_or : {X : Type 0} → X → List X → X
head_or y [] = y
head_or y (z ∷ zs) = z

-- the first that is kept is the one that is found
pub first_found : {X : Type 0} (p : X → Bool) (xs : List X) (x : X) (more : List X) → filter p xs ≡ x ∷ more → find p xs ≡ Some x
first_found p [] x more is = absurd (let lengths : 0 ≡ suc (length more) = ap length is in omega arith)
first_found {X} p (y ∷ ys) x more is = from (λ is'. first_found p ys x more is') (p y) is
  where
    from : (filter p ys ≡ x ∷ more → find p ys ≡ Some x) → (b : Bool) → cond b (y ∷ filter p ys) (filter p ys) ≡ x ∷ more → cond b (Some y) (find p ys) ≡ Some x
    from rest true is' = ap Some (ap (head_or y) is')
    from rest false is' = rest is'

-- what is found is in the list, and passes
pub record IsFound {X : Type 0} (p : X → Bool) (xs : List X) (x : X) : Type 0 where
  pub place : ℕ
  pub there : slice_get xs place ≡ Some x
  pub passes : p x ≡ true

pub found : {X : Type 0} (p : X → Bool) (xs : List X) (x : X) → find p xs ≡ Some x → IsFound p xs x
found p [] x is = absurd (none-some x is)
found {X} p (y ∷ ys) x is = from (λ is'. found p ys x is') (p y) refl is
  where
    from : (find p ys ≡ Some x → IsFound p ys x) → (b : Bool) → p y ≡ b → cond b (Some y) (find p ys) ≡ Some x → IsFound p (y ∷ ys) x
    from rest true passes is' = let same : y ≡ x = same_Some y x is' in record { place = 0; there = is'; passes = ap p (sym same) ∙ passes }
    from rest false fails is' = let there : IsFound p ys x = rest is' in record { place = suc there.place; there = there.there; passes = there.passes }

-- where one is kept, one is there
pub some_found : {X : Type 0} (p : X → Bool) (xs : List X) → 1 ≤ length (filter p xs) → (x : X) × IsFound p xs x
some_found p [] some = absurd (omega arith)
some_found {X} p (y ∷ ys) some = from (λ some'. some_found p ys some') (p y) refl some
  where
    from : (1 ≤ length (filter p ys) → (x : X) × IsFound p ys x) → (b : Bool) → p y ≡ b → 1 ≤ length (cond b (y ∷ filter p ys) (filter p ys)) → (x : X) × IsFound p (y ∷ ys) x
    from rest true passes some' = (y, record { place = 0; there = refl; passes = passes })
    from rest false fails some' = let below : (x : X) × IsFound p ys x = rest some' in (below.0, record { place = suc below.1.place; there = below.1.there; passes = below.1.passes })

-- what holds of each element of two lists holds of each of both
pub each-append : {X : Type 0} (P : X → Type 0) (xs ys : List X) → AllByRecursion P xs → AllByRecursion P ys → AllByRecursion P (xs ++ ys)
each-append P [] ys a b = b
each-append P (x ∷ xs) ys a b = (a.0, each-append P xs ys a.1 b)

pub each-front : {X : Type 0} (P : X → Type 0) (xs ys : List X) → AllByRecursion P (xs ++ ys) → AllByRecursion P xs
each-front P [] ys a = tt
each-front P (x ∷ xs) ys a = (a.0, each-front P xs ys a.1)

pub each-weaker : {X : Type 0} (P Q : X → Type 0) (xs : List X) → ((x : X) → P x → Q x) → AllByRecursion P xs → AllByRecursion Q xs
each-weaker P Q [] more a = tt
each-weaker P Q (x ∷ xs) more a = (more x a.0, each-weaker P Q xs more a.1)

pub each-map : {X Y : Type 0} (P : Y → Type 0) (f : X → Y) (xs : List X) → AllByRecursion (λ x. P (f x)) xs → AllByRecursion P (map f xs)
each-map P f [] a = tt
each-map P f (x ∷ xs) a = (a.0, each-map P f xs a.1)

pub each-filter : {X : Type 0} (P : X → Type 0) (p : X → Bool) (xs : List X) → AllByRecursion P xs → AllByRecursion P (filter p xs)
each-filter P p [] a = tt
each-filter P p (x ∷ xs) a = cond_both (p x) (x ∷ filter p xs) (filter p xs) (λ l. AllByRecursion P l) (λ _. (a.0, each-filter P p xs a.1)) (λ _. each-filter P p xs a.1)

-- a filter that keeps each element, or none
pub filter_each : {X : Type 0} (p : X → Bool) (xs : List X) → AllByRecursion (λ x. p x ≡ true) xs → filter p xs ≡ xs
filter_each p [] a = refl
filter_each p (x ∷ xs) a = cond-true (p x) (x ∷ filter p xs) (filter p xs) a.0 ∙ ap (λ l. x ∷ l) (filter_each p xs a.1)

pub filter_none : {X : Type 0} (p : X → Bool) (xs : List X) → AllByRecursion (λ x. p x ≡ false) xs → filter p xs ≡ []
filter_none p [] a = refl
filter_none p (x ∷ xs) a = cond-false (p x) (x ∷ filter p xs) (filter p xs) a.0 ∙ filter_none p xs a.1

-- each place below the length has an element
pub there_below : {X : Type 0} (xs : List X) (i : ℕ) → i < length xs → (x : X) × (slice_get xs i ≡ Some x)
there_below [] i lt = absurd (omega arith)
there_below (x ∷ xs) zero lt = (x, refl)
there_below (x ∷ xs) (suc i) lt = there_below xs i (omega arith)

-- what is kept passes
pub each-passes : {X : Type 0} (p : X → Bool) (xs : List X) → AllByRecursion (λ x. p x ≡ true) (filter p xs)
each-passes p [] = tt
each-passes p (x ∷ xs) = at (each-passes p xs) (p x) refl
  where
    at : AllByRecursion (λ x. p x ≡ true) (filter p xs) → (b : Bool) → p x ≡ b → AllByRecursion (λ x. p x ≡ true) (cond b (x ∷ filter p xs) (filter p xs))
    at rest true passes = (passes, rest)
    at rest false fails = rest

pub each-back : {X : Type 0} (P : X → Type 0) (xs ys : List X) → AllByRecursion P (xs ++ ys) → AllByRecursion P ys
each-back P [] ys a = a
each-back P (x ∷ xs) ys a = each-back P xs ys a.1

-- a filter that keeps all
pub filter_all : {X : Type 0} (xs : List X) → filter (λ _. true) xs ≡ xs
filter_all [] = refl
filter_all (x ∷ xs) = ap (λ l. x ∷ l) (filter_all xs)
