-- Elements that are put back into their places one after another, from the last one down.
use Rattle.std.proofs.Common.{◌≡◌, ℕ, ◌+◌, ◌<◌, ◌≤◌, Bool, true, false, eqb, List, [], ◌∷◌, ◌++◌, length, get_or, Option, Some, refl, sym, ap, ap₂, ◌∙◌, subst, arith, append_assoc, append-nil, length-append}
use Rattle.std.specs.Prelude.{slice_get, slice_set}
use Rattle.std.proofs.lemmas.Bool.{eqb-true, eqb-false}
use Rattle.std.proofs.lemmas.List.{length-set}
use Rattle.std.proofs.lemmas.Option.{same_Some, slice_get-get_or, slice_get_within}
use Rattle.run_laws.proofs.Lists.{there_below, slice_get-set_same, slice_get-set_other}
use Rattle.run_threads.specs.Parting.{HasPlace, HavePlaces, PutFrom, PutBack}
use Rattle.run_threads.proofs.SeatsTaken.{get_middle}

-- those from some on were put back, and the others are left
pub record IsPutting {X : Type 0} (items : List X) (places : List ℕ) (slots : List (Option X)) (left : List X) (slots' : List (Option X)) : Type 0 where
  pub back : List X
  pub whole : left ++ back ≡ items
  pub put : PutFrom (length left) items places slots slots'

module _ {X : Type 0} (items : List X) (places : List ℕ) (slots : List (Option X)) (have : HavePlaces (length items) (length slots) places) where
  pub putting_starts : (left : List X) → left ≡ items → IsPutting items places slots left slots
  putting_starts left is = record {
    back = [];
    whole = append-nil left ∙ is;
    put = record {
      as_many = refl;
      each = λ i place x late at got. absurd (let within : i < length items = slice_get_within items i x got in let many : length left ≡ length items = ap length is in omega arith);
      others = λ k other. refl;
    };
  }

  module _ (left left' : List X) (x : X) (slots' : List (Option X)) (so_far : IsPutting items places slots left slots') (first : left ≡ left' ++ x ∷ []) where
    whole_now : left' ++ x ∷ so_far.back ≡ items
    whole_now = sym (append_assoc left' (x ∷ []) so_far.back) ∙ ap (λ l. l ++ so_far.back) (sym first) ∙ so_far.whole

    item_there : slice_get items (length left') ≡ Some x
    item_there = ap (λ l. slice_get l (length left')) (sym whole_now) ∙ get_middle left' x so_far.back

    item_within : length left' < length items
    item_within = slice_get_within items (length left') x item_there

    many_left : length left ≡ length left' + 1
    many_left = ap length first ∙ length-append left' (x ∷ [])

    place_has : HasPlace (length slots) places (length left')
    place_has = have.each (length left') item_within

    pub place_in : (n : ℕ) → n ≡ length left' → n < length places
    place_in n is = (let within : length left' < length places = slice_get_within places (length left') place_has.place place_has.there in omega (arith, is))

    -- whatever is read at that place
    at_place : (n : ℕ) → n ≡ length left' → slice_get places n ≡ Some (get_or places n 0)
    at_place n is = slice_get-get_or places n 0 (place_in n is)

    pub slot_in : (n : ℕ) → n ≡ length left' → get_or places n 0 < length slots'
    slot_in n is =
        let same : get_or places n 0 ≡ place_has.place = same_Some (get_or places n 0) place_has.place (sym (at_place n is) ∙ ap (slice_get places) is ∙ place_has.there) in
        let within : place_has.place < length slots = place_has.within in
        let many : length slots' ≡ length slots = so_far.put.as_many in
        omega arith

    module _ (n : ℕ) (is : n ≡ length left') (slots'' : List (Option X)) (set : slots'' ≡ slice_set slots' (get_or places n 0) (Some x)) where
      abbrev place : ℕ
      place = get_or places n 0

      at_here : slice_get places (length left') ≡ Some place
      at_here = ap (slice_get places) (sym is) ∙ at_place n is

      each_then : (i p : ℕ) (y : X) → length left' ≤ i → slice_get places i ≡ Some p → slice_get items i ≡ Some y → (o : Bool) → eqb i (length left') ≡ o → slice_get slots'' p ≡ Some (Some y)
      each_then i p y late at_i got true e =
          let same : i ≡ length left' = eqb-true i (length left') e in
          let same_place : p ≡ place = same_Some p place (sym at_i ∙ ap (slice_get places) same ∙ at_here) in
          let same_item : x ≡ y = same_Some x y (sym item_there ∙ ap (slice_get items) (sym same) ∙ got) in
          let before = there_below slots' place (slot_in n is) in
          ap₂ slice_get set same_place ∙ slice_get-set_same slots' place before.0 (Some x) before.1 ∙ ap (λ (z : X). Some (Some z)) same_item
      each_then i p y late at_i got false e =
          let differ = eqb-false i (length left') e in
          let within : i < length items = slice_get_within items i y got in
          let later : length left ≤ i = (let many : length left ≡ length left' + 1 = many_left in let apart : i ≡ length left' → ⊥ = differ in omega arith) in
          ap (λ l. slice_get l p) set ∙ slice_get-set_other slots' place p (Some x) (λ same. differ (have.apart i (length left') p within item_within at_i (at_here ∙ ap Some same))) ∙ so_far.put.each i p y later at_i got

      pub putting_more : IsPutting items places slots left' slots''
      putting_more = record {
        back = x ∷ so_far.back;
        whole = whole_now;
        put = record {
          as_many = ap length set ∙ length-set slots' place (Some x) ∙ so_far.put.as_many;
          each = λ i p y late at_i got. each_then i p y late at_i got (eqb i (length left')) refl;
          others = λ k other. ap (λ l. slice_get l k) set ∙ slice_get-set_other slots' place k (Some x) (λ same. other (length left') (let le : length left' ≤ length left' = omega arith in le) item_within (at_here ∙ ap Some same)) ∙ so_far.put.others k (λ i late within. other i (let many : length left ≡ length left' + 1 = many_left in omega arith) within);
        };
      }

  pub all_put : (left : List X) (slots' : List (Option X)) → IsPutting items places slots left slots' → left ≡ [] → PutBack items places slots slots'
  all_put left slots' so_far none = subst (λ n. PutFrom n items places slots slots') (ap length none) so_far.put
