-- Elements that are taken from their places one after another.
use Rattle.std.proofs.Common.{◌≡◌, ℕ, zero, suc, ◌+◌, ◌<◌, ◌≤◌, Bool, true, false, leb, List, [], ◌∷◌, ◌++◌, length, map, reverse, Option, Some, None, refl, sym, ap, ap₂, ◌∙◌, arith, append_assoc, append-nil, length-append, get_or}
use Rattle.std.specs.Prelude.{slice_get, slice_set}
use Rattle.std.proofs.lemmas.Bool.{leb-true, leb-false}
use Rattle.std.proofs.lemmas.List.{length-map, reverse-append, reverse-reverse}
use Rattle.std.proofs.lemmas.Option.{none-some, same_Some, slice_get-get_or, slice_get_within}
use Rattle.run_laws.proofs.Lists.{slice_get-set_other}
use Rattle.sync_laws.proofs.Changed.{mapped_at}
use Rattle.run_threads.specs.Seats.{AreThere, TakenSoFar}

module _ {X : Type 0} (all : List X) where
  pub loosen_starts : (slots : List (Option X)) (left : List X) → slots ≡ [] → left ≡ reverse all → slots ++ map Some (reverse left) ≡ map Some all
  loosen_starts slots left none is = ap (λ l. l ++ map Some (reverse left)) none ∙ ap (λ l. map Some (reverse l)) is ∙ ap (map Some) (reverse-reverse all)

  pub loosen_more : (slots slots' : List (Option X)) (left left' : List X) (x : X) → slots ++ map Some (reverse left) ≡ map Some all → left ≡ left' ++ x ∷ [] → slots' ≡ slots ++ Some x ∷ [] → slots' ++ map Some (reverse left') ≡ map Some all
  loosen_more slots slots' left left' x so_far first pushed = ap (λ l. l ++ map Some (reverse left')) pushed ∙ append_assoc slots (Some x ∷ []) (map Some (reverse left')) ∙ ap (λ l. slots ++ map Some l) (sym (ap reverse first ∙ reverse-append left' (x ∷ []))) ∙ so_far

  pub loosen_ends : (slots : List (Option X)) (left : List X) → slots ++ map Some (reverse left) ≡ map Some all → left ≡ [] → slots ≡ map Some all
  loosen_ends slots left so_far none = sym (append-nil slots) ∙ ap (λ l. slots ++ map Some (reverse l)) (sym none) ∙ so_far

get_front : {X : Type 0} (xs ys : List X) (i : ℕ) → i < length xs → slice_get (xs ++ ys) i ≡ slice_get xs i
get_front [] ys i lt = absurd (omega arith)
get_front (x ∷ xs) ys zero lt = refl
get_front (x ∷ xs) ys (suc i) lt = get_front xs ys i (omega arith)

get_last : {X : Type 0} (xs : List X) (x : X) → slice_get (xs ++ x ∷ []) (length xs) ≡ Some x
get_last [] x = refl
get_last (y ∷ xs) x = get_last xs x

module _ {X : Type 0} (slots : List (Option X)) (places : List ℕ) where
  pub taken_starts : TakenSoFar 0 slots places slots []
  taken_starts = record { as_many = refl; each = λ i place x at got. absurd (none-some x got); others = λ k other. refl }

  module _ (there : AreThere slots places) (n : ℕ) (mid : List (Option X)) (items : List X) (so_far : TakenSoFar n slots places mid items) (place : ℕ) (at_n : slice_get places n ≡ Some place) where
    untouched : slice_get mid place ≡ slice_get slots place
    untouched = so_far.others place (λ i lt is. absurd (let same : i ≡ n = there.apart i n place is at_n in omega arith))

    pub is_there : (x : X) × (slice_get mid place ≡ Some (Some x))
    is_there = (let first : (x : X) × (slice_get slots place ≡ Some (Some x)) = there.each n place at_n in (first.0, untouched ∙ first.1))

    pub taken_more : (x : X) → slice_get mid place ≡ Some (Some x) → (mid' : List (Option X)) (items' : List X) → mid' ≡ slice_set mid place None → items' ≡ items ++ x ∷ [] → TakenSoFar (n + 1) slots places mid' items'
    taken_more x found mid' items' set pushed = record {
      as_many = ap length pushed ∙ length-append items (x ∷ []) ∙ ap (λ m. m + 1) so_far.as_many;
      each = each;
      others = λ k other. ap (λ l. slice_get l k) set ∙ slice_get-set_other mid place k None (λ same. other n (omega arith) (at_n ∙ ap Some same)) ∙ so_far.others k (λ i lt. other i (omega arith));
    }
      where
        many : length items ≡ n
        many = so_far.as_many

        each : (i p : ℕ) (y : X) → slice_get places i ≡ Some p → slice_get items' i ≡ Some y → slice_get slots p ≡ Some (Some y)
        each i p y at got = by (leb n i) refl
          where
            got_in : slice_get (items ++ x ∷ []) i ≡ Some y
            got_in = sym (ap (λ l. slice_get l i) pushed) ∙ got

            by : (late : Bool) → leb n i ≡ late → slice_get slots p ≡ Some (Some y)
            by false e = (let before : i < length items = (let lt : i < n = leb-false n i e in omega (arith, many)) in so_far.each i p y at (sym (get_front items (x ∷ []) i before) ∙ got_in))
            by true e =
                let le : n ≤ i = leb-true n i e in
                let within : i < length (items ++ x ∷ []) = slice_get_within (items ++ x ∷ []) i y got_in in
                let sum : length (items ++ x ∷ []) ≡ length items + 1 = length-append items (x ∷ []) in
                let same : i ≡ n = omega (arith, many) in
                let same_place : p ≡ place = same_Some p place (sym at ∙ ap (slice_get places) same ∙ at_n) in
                let same_item : x ≡ y = same_Some x y (sym (get_last items x) ∙ ap (slice_get (items ++ x ∷ [])) (many ∙ sym same) ∙ got_in) in
                ap (slice_get slots) same_place ∙ sym untouched ∙ found ∙ ap (λ (z : X). Some (Some z)) same_item

pub get_middle : {X : Type 0} (xs : List X) (x : X) (ys : List X) → slice_get (xs ++ x ∷ ys) (length xs) ≡ Some x
get_middle [] x ys = refl
get_middle (y ∷ xs) x ys = get_middle xs x ys

-- the side that is next, of sides whose first were given to ends
pub next_side : {E S : Type 0} (seat : E → S) (ends : List E) (left left' : List S) (x : S) (sides : List S) → map seat ends ++ reverse left ≡ sides → left ≡ left' ++ x ∷ [] → (n : ℕ) → n ≡ length ends → slice_get sides n ≡ Some x
next_side seat ends left left' x sides so_far first n is =
    ap₂ slice_get (sym so_far ∙ ap (λ l. map seat ends ++ l) (ap reverse first ∙ reverse-append left' (x ∷ []))) (is ∙ sym (length-map ends seat)) ∙ get_middle (map seat ends) x (reverse left')

pub same_element : {X : Type 0} (xs : List X) (i : ℕ) (x y : X) → slice_get xs i ≡ Some x → y ≡ get_or xs i y → x ≡ y
same_element xs i x y there is = same_Some x y (sym there ∙ slice_get-get_or xs i y (slice_get_within xs i x there) ∙ ap Some (sym is))

pub not_none : {X : Type 0} (slots : List (Option X)) (place : ℕ) (x : X) (found : Option X) → slice_get slots place ≡ Some (Some x) → slice_get slots place ≡ Some found → found ≡ None → ⊥
not_none slots place x found there is none = (let both : Some x ≡ None = same_Some (Some x) found (sym there ∙ is) ∙ none in absurd cc)

-- an element of a list by what a function makes of it
pub mapped_within : {X Y : Type 0} (f : X → Y) (xs : List X) (i : ℕ) (y : Y) → slice_get (map f xs) i ≡ Some y → i < length xs
mapped_within f xs i y there = (let found = mapped_at f xs (map f xs) i y refl there in slice_get_within xs i found.0 found.1)

pub same_mapped : {X Y : Type 0} (f : X → Y) (xs : List X) (i : ℕ) (y : Y) (d : X) → slice_get (map f xs) i ≡ Some y → d ≡ get_or xs i d → y ≡ f d
same_mapped f xs i y d there is = (let found = mapped_at f xs (map f xs) i y refl there in sym found.2 ∙ ap f (same_element xs i found.0 d found.1 is))
