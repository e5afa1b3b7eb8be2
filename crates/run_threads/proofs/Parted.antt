-- The parts of a crew, taken apart one after another, and the sides of queues in order.
use Rattle.std.proofs.Common.{◌≡◌, ℕ, zero, suc, ◌+◌, ◌<◌, ◌≤◌, Bool, true, false, eqb, List, [], ◌∷◌, ◌++◌, length, map, reverse, Option, Some, None, refl, sym, ap, ◌∙◌, subst, arith, append_assoc, append-nil, length-append}
use Rattle.std.specs.Prelude.{slice_get}
use Rattle.std.proofs.lemmas.Bool.{eqb-true, eqb-false}
use Rattle.std.proofs.lemmas.List.{length-map, length-reverse, map_push, reverse-append, reverse-reverse}
use Rattle.std.proofs.lemmas.Option.{none-some, same_Some, slice_get_within}
use Rattle.slot_queue.specs.declared.ends.TxEnd.{TxEnd}
use Rattle.slot_queue.specs.declared.ends.RxEnd.{RxEnd}
use Rattle.sync_rule.specs.declared.runner.Runner.{Runner}
use Rattle.run_threads.specs.declared.part.Part.{Part}
use Rattle.run_threads.specs.Parting.{HavePlaces, PutBack, HaveOwnPlaces, AreBack, AreFilled, AreSidesIn, runner_of, txs_of, rxs_of, departures_of, arrivals_of}
use Rattle.run_threads.proofs.Dealt.{get_last, get_other}
use Rattle.run_threads.proofs.SeatsTaken.{get_middle, not_none}

get_front : {X : Type 0} (xs ys : List X) (i : ℕ) (x : X) → slice_get xs i ≡ Some x → slice_get (xs ++ ys) i ≡ Some x
get_front [] ys i x there = absurd (none-some x there)
get_front (y ∷ xs) ys zero x there = there
get_front (y ∷ xs) ys (suc i) x there = get_front xs ys i x there

-- ONE PART MORE

module _ {P E : Type 0} (places_of : P → List ℕ) (ends_of : P → List E) (bound : ℕ) (all : List P) (own : HaveOwnPlaces places_of ends_of bound all) (front : List P) (part : P) (rest : List P) (whole : front ++ part ∷ rest ≡ all) where
  here : slice_get all (length front) ≡ Some part
  here = ap (λ l. slice_get l (length front)) (sym whole) ∙ get_middle front part rest

  places_here : (many : ℕ) → many ≡ bound → HavePlaces (length (ends_of part)) many (places_of part)
  places_here many is = subst (λ n. HavePlaces (length (ends_of part)) n (places_of part)) (sym is) (record {
    each = λ i within. own.each (length front) i part here within;
    apart = λ i j place i_in j_in at_i at_j. (own.apart (length front) (length front) i j place part part here here i_in j_in at_i at_j).1;
  })

  back_more : (slots slots' : List (Option E)) → AreBack places_of ends_of front slots → PutBack (ends_of part) (places_of part) slots slots' → AreBack places_of ends_of (front ++ part ∷ []) slots'
  back_more slots slots' back put = record { each = λ c i place one end at_c at_i at_place. by c i place one end at_c at_i at_place (eqb c (length front)) refl }
    where
      by : (c i place : ℕ) (one : P) (end : E) → slice_get (front ++ part ∷ []) c ≡ Some one → slice_get (ends_of one) i ≡ Some end → slice_get (places_of one) i ≡ Some place → (o : Bool) → eqb c (length front) ≡ o → slice_get slots' place ≡ Some (Some end)
      by c i place one end at_c at_i at_place true e =
          let same : one ≡ part = same_Some one part (sym at_c ∙ ap (slice_get (front ++ part ∷ [])) (eqb-true c (length front) e) ∙ get_last front part) in
          put.each i place end (let le : 0 ≤ i = omega arith in le) (ap (λ (p : P). slice_get (places_of p) i) (sym same) ∙ at_place) (ap (λ (p : P). slice_get (ends_of p) i) (sym same) ∙ at_i)
      by c i place one end at_c at_i at_place false e =
          let differ = eqb-false c (length front) e in
          let in_front : slice_get front c ≡ Some one = sym (get_other front part c differ) ∙ at_c in
          let in_all : slice_get all c ≡ Some one = ap (λ l. slice_get l c) (sym whole) ∙ get_front front (part ∷ rest) c one in_front in
          put.others place (λ j late within at_j. differ (own.apart c (length front) i j place one part in_all here (slice_get_within (ends_of one) i end at_i) within at_place at_j).0) ∙ back.each c i place one end in_front at_i at_place

-- ALL PARTS

-- the first parts were taken apart; those that are left stand in turned order
pub record IsOpening {V : Type 0} (all left : List (Part V)) (runners : List (Runner V)) (senders : List (Option TxEnd)) (receivers : List (Option RxEnd)) : Type 0 where
  pub front : List (Part V)
  pub whole : front ++ reverse left ≡ all
  pub runners_are : runners ≡ map runner_of front
  pub sending : AreBack departures_of txs_of front senders
  pub receiving : AreBack arrivals_of rxs_of front receivers

none_back : {P E : Type 0} (places_of : P → List ℕ) (ends_of : P → List E) (slots : List (Option E)) → AreBack places_of ends_of [] slots
none_back places_of ends_of slots = record { each = λ c i place part one at_c at_i at_place. absurd (none-some part at_c) }

pub opening_starts : {V : Type 0} (parts left : List (Part V)) (runners : List (Runner V)) (senders : List (Option TxEnd)) (receivers : List (Option RxEnd)) → runners ≡ [] → left ≡ parts → IsOpening (reverse parts) left runners senders receivers
opening_starts parts left runners senders receivers none is = record {
  front = [];
  whole = ap reverse is;
  runners_are = none;
  sending = none_back departures_of txs_of senders;
  receiving = none_back arrivals_of rxs_of receivers;
}

module _ {V : Type 0} (parts left left' : List (Part V)) (part : Part V) (runners : List (Runner V)) (senders : List (Option TxEnd)) (receivers : List (Option RxEnd)) (so_far : IsOpening (reverse parts) left runners senders receivers) (first : left ≡ left' ++ part ∷ []) where
  whole_now : so_far.front ++ part ∷ reverse left' ≡ reverse parts
  whole_now = ap (λ l. so_far.front ++ l) (sym (ap reverse first ∙ reverse-append left' (part ∷ []))) ∙ so_far.whole

  pub room_more : length runners < length parts
  room_more = (let many : length runners ≡ length so_far.front = ap length so_far.runners_are ∙ length-map so_far.front runner_of in let both : length (so_far.front ++ part ∷ reverse left') ≡ length parts = ap length whole_now ∙ length-reverse parts in let sum : length (so_far.front ++ part ∷ reverse left') ≡ length so_far.front + length (part ∷ reverse left') = length-append so_far.front (part ∷ reverse left') in omega arith)

  pub departures_here : (bound many : ℕ) → HaveOwnPlaces departures_of txs_of bound (reverse parts) → many ≡ bound → HavePlaces (length part.driver.txs.items) many part.departures
  departures_here bound many own is = places_here departures_of txs_of bound (reverse parts) own so_far.front part (reverse left') whole_now many is

  pub arrivals_here : (bound many : ℕ) → HaveOwnPlaces arrivals_of rxs_of bound (reverse parts) → many ≡ bound → HavePlaces (length part.driver.rxs.items) many part.arrivals
  arrivals_here bound many own is = places_here arrivals_of rxs_of bound (reverse parts) own so_far.front part (reverse left') whole_now many is

  pub opening_more : (to_send to_receive : ℕ) → HaveOwnPlaces departures_of txs_of to_send (reverse parts) → HaveOwnPlaces arrivals_of rxs_of to_receive (reverse parts) → (runner : Runner V) (runners' : List (Runner V)) (senders' : List (Option TxEnd)) (receivers' : List (Option RxEnd)) → runner ≡ part.driver.runner → runners' ≡ runners ++ runner ∷ [] → PutBack part.driver.txs.items part.departures senders senders' → PutBack part.driver.rxs.items part.arrivals receivers receivers' → IsOpening (reverse parts) left' runners' senders' receivers'
  opening_more to_send to_receive own_send own_receive runner runners' senders' receivers' is pushed sent received = record {
    front = so_far.front ++ part ∷ [];
    whole = append_assoc so_far.front (part ∷ []) (reverse left') ∙ whole_now;
    runners_are = pushed ∙ ap (λ r. runners ++ r ∷ []) is ∙ ap (λ l. l ++ part.driver.runner ∷ []) so_far.runners_are ∙ sym (map_push runner_of so_far.front part);
    sending = back_more departures_of txs_of to_send (reverse parts) own_send so_far.front part (reverse left') whole_now senders senders' so_far.sending sent;
    receiving = back_more arrivals_of rxs_of to_receive (reverse parts) own_receive so_far.front part (reverse left') whole_now receivers receivers' so_far.receiving received;
  }

module _ {V : Type 0} (all left : List (Part V)) (runners : List (Runner V)) (senders : List (Option TxEnd)) (receivers : List (Option RxEnd)) (so_far : IsOpening all left runners senders receivers) (none : left ≡ []) where
  front_is : so_far.front ≡ all
  front_is = sym (append-nil so_far.front) ∙ ap (λ l. so_far.front ++ reverse l) (sym none) ∙ so_far.whole

  pub runners_done : runners ≡ map runner_of all
  runners_done = so_far.runners_are ∙ ap (map runner_of) front_is

  pub sending_done : AreBack departures_of txs_of all senders
  sending_done = subst (λ l. AreBack departures_of txs_of l senders) front_is so_far.sending

  pub receiving_done : AreBack arrivals_of rxs_of all receivers
  receiving_done = subst (λ l. AreBack arrivals_of rxs_of l receivers) front_is so_far.receiving

-- SIDES IN ORDER

-- the sides of the first ends were taken; the slots that are left stand in turned order
pub record IsSeating {E S : Type 0} (side_of : E → S) (slots left : List (Option E)) (sides : List S) : Type 0 where
  pub done : List E
  pub whole : map Some done ++ reverse left ≡ slots
  pub sides_are : sides ≡ map side_of done

module _ {E S : Type 0} (side_of : E → S) (slots : List (Option E)) where
  pub seating_starts : (left : List (Option E)) (sides : List S) → sides ≡ [] → left ≡ reverse slots → IsSeating side_of slots left sides
  seating_starts left sides none is = record { done = []; whole = ap reverse is ∙ reverse-reverse slots; sides_are = none }

  module _ (left left' : List (Option E)) (slot : Option E) (sides : List S) (so_far : IsSeating side_of slots left sides) (first : left ≡ left' ++ slot ∷ []) where
    slots_now : map Some so_far.done ++ slot ∷ reverse left' ≡ slots
    slots_now = ap (λ l. map Some so_far.done ++ l) (sym (ap reverse first ∙ reverse-append left' (slot ∷ []))) ∙ so_far.whole

    slot_there : slice_get slots (length (map Some so_far.done)) ≡ Some slot
    slot_there = ap (λ l. slice_get l (length (map Some so_far.done))) (sym slots_now) ∙ get_middle (map Some so_far.done) slot (reverse left')

    pub never_empty : AreFilled slots → slot ≡ None → ⊥
    never_empty filled none = (let has = filled.each (length (map Some so_far.done)) (slice_get_within slots (length (map Some so_far.done)) slot slot_there) in not_none slots (length (map Some so_far.done)) has.0 slot has.1 slot_there none)

    pub seat_room : length sides < length slots
    seat_room = (let many : length sides ≡ length so_far.done = ap length so_far.sides_are ∙ length-map so_far.done side_of in let mapped : length (map Some so_far.done) ≡ length so_far.done = length-map so_far.done Some in let within : length (map Some so_far.done) < length slots = slice_get_within slots (length (map Some so_far.done)) slot slot_there in omega arith)

    pub seating_more : (end : E) (side : S) (sides' : List S) → slot ≡ Some end → side ≡ side_of end → sides' ≡ sides ++ side ∷ [] → IsSeating side_of slots left' sides'
    seating_more end side sides' is side_is pushed = record {
      done = so_far.done ++ end ∷ [];
      whole = ap (λ l. l ++ reverse left') (map_push Some so_far.done end) ∙ append_assoc (map Some so_far.done) (Some end ∷ []) (reverse left') ∙ ap (λ s. map Some so_far.done ++ s ∷ reverse left') (sym is) ∙ slots_now;
      sides_are = pushed ∙ ap (λ s. sides ++ s ∷ []) side_is ∙ ap (λ l. l ++ side_of end ∷ []) so_far.sides_are ∙ sym (map_push side_of so_far.done end);
    }

  pub all_seated : (left : List (Option E)) (sides : List S) → IsSeating side_of slots left sides → left ≡ [] → AreSidesIn side_of slots sides
  all_seated left sides so_far none = record {
    ends = so_far.done;
    filled = sym so_far.whole ∙ ap (λ l. map Some so_far.done ++ reverse l) none ∙ append-nil (map Some so_far.done);
    sides_are = so_far.sides_are;
  }
