-- The elements of one sort among those of a list.
use Rattle.std.proofs.Common.{◌≡◌, ℕ, zero, suc, ◌<◌, List, [], ◌∷◌, length, get_or, Option, Some, None, refl, sym, ap, subst, arith}
use Rattle.std.specs.Prelude.{slice_get}
use Rattle.std.specs.List.{filter_map, cons_option}
use Rattle.std.proofs.lemmas.Option.{same_Some, none-some}

-- both are there and related, or neither is there
abbrev pub Both : {M N : Type 0} → (M → N → Type 0) → Option M → Option N → Type 0
Both R None None = Unit {0}
Both R None (Some n) = ⊥
Both R (Some m) None = ⊥
Both R (Some m) (Some n) = R m n

-- what is there has a property
abbrev pub If : {M : Type 0} → (M → Type 0) → Option M → Type 0
If P None = Unit {0}
If P (Some m) = P m

-- the elements of two lists at the same places are related
pub record EachOf {M : Type 0} (R : M → M → Type 0) (xs ys : List M) : Type 0 where
  pub as_many : length ys ≡ length xs
  pub each : (k : ℕ) (d : M) → k < length xs → R (get_or xs k d) (get_or ys k d)

-- each element has a property
pub record AllOf {M : Type 0} (P : M → Type 0) (xs : List M) : Type 0 where
  pub each : (k : ℕ) (d : M) → k < length xs → P (get_or xs k d)

join_all : {M : Type 0} (P : M → Type 0) (o : Option M) → If P o → (xs : List M) → AllOf P xs → AllOf P (cons_option o xs)
join_all P None is xs all = all
join_all {M} P (Some m) is xs all = record { each = at }
  where
    at : (k : ℕ) (d : M) → k < length (m ∷ xs) → P (get_or (m ∷ xs) k d)
    at zero d within = is
    at (suc k) d within = all.each k d (omega arith)

join_each : {M : Type 0} (R : M → M → Type 0) (o p : Option M) → Both R o p → (xs ys : List M) → EachOf R xs ys → EachOf R (cons_option o xs) (cons_option p ys)
join_each R None None both xs ys of = of
join_each R None (Some n) both xs ys of = absurd both
join_each R (Some m) None both xs ys of = absurd both
join_each {M} R (Some m) (Some n) both xs ys of = record { as_many = (let many : length ys ≡ length xs = of.as_many in omega arith); each = at }
  where
    at : (k : ℕ) (d : M) → k < length (m ∷ xs) → R (get_or (m ∷ xs) k d) (get_or (n ∷ ys) k d)
    at zero d within = both
    at (suc k) d within = of.each k d (omega arith)

-- two elements that are there, and are related
pub record AreBoth {M : Type 0} (R : M → M → Type 0) (o p : Option M) : Type 0 where
  pub before : M
  pub after : M
  pub is_before : o ≡ Some before
  pub is_after : p ≡ Some after
  pub related : R before after

-- the elements of two lists at some place are related
pub record AtSome {M : Type 0} (R : M → M → Type 0) (xs ys : List M) : Type 0 where
  pub place : ℕ
  pub before : M
  pub after : M
  pub at_before : slice_get xs place ≡ Some before
  pub at_after : slice_get ys place ≡ Some after
  pub related : R before after

at_head : {M : Type 0} (R : M → M → Type 0) (o p : Option M) → AreBoth R o p → (xs ys : List M) → AtSome R (cons_option o xs) (cons_option p ys)
at_head R o p both xs ys = record {
  place = zero;
  before = both.before;
  after = both.after;
  at_before = ap (λ q. slice_get (cons_option q xs) zero) both.is_before;
  at_after = ap (λ q. slice_get (cons_option q ys) zero) both.is_after;
  related = both.related;
}

at_later : {M : Type 0} (R S : M → M → Type 0) (o p : Option M) → Both S o p → (xs ys : List M) → AtSome R xs ys → AtSome R (cons_option o xs) (cons_option p ys)
at_later R S None None both xs ys at = at
at_later R S None (Some n) both xs ys at = absurd both
at_later R S (Some m) None both xs ys at = absurd both
at_later R S (Some m) (Some n) both xs ys at = record { place = suc at.place; before = at.before; after = at.after; at_before = at.at_before; at_after = at.at_after; related = at.related }

module _ {H M : Type 0} (sort : H → Option M) where
  -- a property of all that those of the sort have
  pub all_sorted : (Q : H → Type 0) (P : M → Type 0) → ((h : H) → Q h → If P (sort h)) → (xs : List H) → ((k : ℕ) (d : H) → k < length xs → Q (get_or xs k d)) → AllOf P (filter_map sort xs)
  all_sorted Q P lift [] each = record { each = λ k d within. absurd (omega arith) }
  all_sorted Q P lift (x ∷ xs) each = join_all P (sort x) (lift x (each zero x (omega arith))) (filter_map sort xs) (all_sorted Q P lift xs (λ k d within. each (suc k) d (omega arith)))

  -- two lists whose elements are related, and of one sort at each place
  pub each_sorted : (Q : H → H → Type 0) (R : M → M → Type 0) → ((g h : H) → Q g h → Both R (sort g) (sort h)) → (xs ys : List H) → length ys ≡ length xs → ((k : ℕ) (d : H) → k < length xs → Q (get_or xs k d) (get_or ys k d)) → EachOf R (filter_map sort xs) (filter_map sort ys)
  each_sorted Q R lift [] [] many each = record { as_many = refl; each = λ k d within. absurd (omega arith) }
  each_sorted Q R lift [] (y ∷ ys) many each = absurd (omega (arith, many))
  each_sorted Q R lift (x ∷ xs) [] many each = absurd (omega (arith, many))
  each_sorted Q R lift (x ∷ xs) (y ∷ ys) many each = join_each R (sort x) (sort y) (lift x y (each zero x (omega arith))) (filter_map sort xs) (filter_map sort ys) (each_sorted Q R lift xs ys (omega (arith, many)) (λ k d within. each (suc k) d (omega arith)))

  -- two elements of the sort at one place are at one place among those of the sort
  pub one_sorted : (Q : H → H → Type 0) (S R : M → M → Type 0) → ((g h : H) → Q g h → Both S (sort g) (sort h)) → (xs ys : List H) → length ys ≡ length xs → ((k : ℕ) (d : H) → k < length xs → Q (get_or xs k d) (get_or ys k d)) → (place : ℕ) (x y : H) → slice_get xs place ≡ Some x → slice_get ys place ≡ Some y → AreBoth R (sort x) (sort y) → AtSome R (filter_map sort xs) (filter_map sort ys)
  one_sorted Q S R lift [] ys many each place x y there there' both = absurd (none-some x there)
  one_sorted Q S R lift (x0 ∷ xs) [] many each place x y there there' both = absurd (omega (arith, many))
  one_sorted Q S R lift (x0 ∷ xs) (y0 ∷ ys) many each zero x y there there' both = at_head R (sort x0) (sort y0) (subst (λ h. AreBoth R (sort h) (sort y0)) (sym (same_Some x0 x there)) (subst (λ h. AreBoth R (sort x) (sort h)) (sym (same_Some y0 y there')) both)) (filter_map sort xs) (filter_map sort ys)
  one_sorted Q S R lift (x0 ∷ xs) (y0 ∷ ys) many each (suc place) x y there there' both = at_later R S (sort x0) (sort y0) (lift x0 y0 (each zero x0 (omega arith))) (filter_map sort xs) (filter_map sort ys) (one_sorted Q S R lift xs ys (omega (arith, many)) (λ k d within. each (suc k) d (omega arith)) place x y there there' both)
