-- Each step of a seat keeps the rule.
use Rattle.std.proofs.Common.{◌≡◌, ℕ, zero, suc, ◌+◌, ◌%◌, ◌^◌, ◌<◌, inr, inl, List, [], ◌∷◌, ◌++◌, map, length, get_or, set, replicate, ap, sym, refl, ◌∙◌, subst, arith}
use Rattle.std.proofs.Math.Nat.{mul-div_cancel}
use Rattle.std.proofs.lemmas.List.{set-get_or, get_or-replicate, length-map, length-replicate}
use Rattle.std.specs.Prelude.{true, false, Option, Some, None}
use mathlib.Core.Bool.{true≢false}
use mathlib.Core.Option.{some, none, some-injective, some-ne-none}
use mathlib.Core.List.{IsPrefix}
use mathlib.Core.Logic.{dite}
use native.Mathlib.Decide.{dec_le}
use lib.ListN.{get_elem?}
use Rattle.atomic_table.specs.Table.{step, opening, keeps, takes, gives, Allows, Splits, Joins}
use Rattle.cs_base.specs.declared.port_kind.PortKind.{PortKind}
use Rattle.sb_message.specs.declared.message.Msg.{Msg}
use Rattle.sb_message.specs.Stream.{IsStream}
use Rattle.slot_queue.specs.declared.view.View.{View}
use Rattle.slot_queue.specs.declared.view.Plan.{Plan}
use Rattle.slot_queue.specs.Words.{line_of, place_of, word_at, word_for, IsConsumers, IsProducers}
use Rattle.slot_queue.specs.Rule.{Lists, OwnerWords, Fits, Stands}
use Rattle.slot_queue.specs.Views.{owning, producing, consuming, remembering, sending_part, taking_part, joined, missed}
use Rattle.slot_queue.specs.Plays.{Seated, LooksForRoom, Sends, LooksForMessage, Receives}
use Rattle.slot_queue.proofs.Places.{prefix_next}
use Rattle.port_queue.specs.Streams.{stream_so_far}
use Rattle.slot_queue.proofs.Changes.{has_room, is_full, has_message, empty_slot, opens_push, sends, full_slot, opens_pop, receives}
use Rattle.slot_queue.proofs.Seats.{after_sender, after_receiver, after_split, after_join, after_memory}

-- the slot of the word that was looked at
pub place_again : (place : ℕ) → place_of (line_of place) ≡ place
place_again place = mul-div_cancel place (omega arith)

abbrev pub with_slot : View → ℕ → Option Msg → Seated
with_slot view place x = (view, (place, x) ∷ [])

pub taken_at : (view : View) (place : ℕ) (x : Option Msg) → with_slot view place x ≡ with_slot view (place_of (line_of place)) x
taken_at view place x = ap (λ (p : ℕ). with_slot view p x) (sym (place_again place))

pub looks_for_room : (plan : Plan) (slots id : ℕ) (kind : PortKind) (sent : List Msg) (misses i : ℕ) → i ≡ length sent % slots
    → Allows (Stands plan) slots id (producing kind sent false misses, []) (line_of i) (λ n. n) (LooksForRoom (step slots (line_of i) 0 0 none) (producing kind sent false misses, []))
looks_for_room plan slots id kind sent misses i place s stands len at less =
    let q = stands.queue in
    let lists : Lists = stands.lists in
    let told = (stands.seats id (producing kind sent false misses) at).sender refl in
    let slots_are : slots ≡ plan.slots = sym len ∙ q.slot_each in
    let there : i ≡ length lists.sent % plan.slots = place ∙ ap (λ l. length l % slots) told.1 ∙ ap (λ k. length lists.sent % k) slots_are in
    let same : s.words ≡ set s.words (line_of i) (word_at s.words i) = sym (set-get_or s.words (line_of i) 0) in
    let idle : lists.filling ≡ false = sym told.2 in
    dite (dec_le (2 ^ 63) (word_at s.words i))
    (λ taken.
    let full = is_full plan.kind plan.slots s.words s.homes lists q (subst (λ p. IsConsumers (word_at s.words p)) there taken) in (
      missed (producing kind sent false misses),
      keeps,
      tt,
      record {
        lists = lists;
        producer = stands.producer;
        consumer = stands.consumer;
        queue = subst (λ ws. OwnerWords plan.kind plan.slots ws s.homes lists) same q;
        seats = after_sender plan.kind stands.producer stands.consumer lists s.views (missed (producing kind sent false misses)) lists.sent lists.filling stands.seats
            (record { sender = λ _. (refl, told.1, told.2, told.3); receiver = λ e. absurd (true≢false (sym e)) }) id told.0;
      },
      record {
        taken = λ _. (refl, (lists.received, subst (λ l. IsPrefix lists.received l) (sym told.1) q.in_order, ap length told.1 ∙ full ∙ ap (λ k. length lists.received + k) (sym slots_are)));
        free = λ free. absurd (omega arith);
      },
    ))
    (λ not_taken.
    let word : IsProducers (word_at s.words i) = omega arith in
    let room = has_room plan.kind plan.slots s.words s.homes lists q (subst (λ p. IsProducers (word_at s.words p)) there word) in
    let opened = opens_push plan.kind plan.slots s.words s.homes lists q idle room in (
      record (producing kind sent false misses) { filling = true },
      takes i None,
      ap (λ p. get_elem? s.homes p) there ∙ empty_slot plan.kind plan.slots s.words s.homes lists q idle room,
      record {
        lists = record lists { filling = true };
        producer = stands.producer;
        consumer = stands.consumer;
        queue = subst (λ ws. OwnerWords plan.kind plan.slots ws (set s.homes i none) (record lists { filling = true })) same
            (subst (λ p. OwnerWords plan.kind plan.slots s.words (set s.homes p none) (record lists { filling = true })) (sym there) opened);
        seats = after_sender plan.kind stands.producer stands.consumer lists s.views (record (producing kind sent false misses) { filling = true }) lists.sent true stands.seats
            (record { sender = λ _. (refl, told.1, refl, told.3); receiver = λ e. absurd (true≢false (sym e)) }) id told.0;
      },
      record { taken = λ taken. absurd (omega arith); free = λ _. taken_at (record (producing kind sent false misses) { filling = true }) i None },
    ))

pub sends_message : (plan : Plan) (slots id : ℕ) (kind : PortKind) (sent : List Msg) (misses i : ℕ) (m : Msg) → i ≡ length sent % slots → IsStream kind (sent ++ m ∷ [])
    → Allows (Stands plan) slots id (producing kind sent true misses, (i, Some m) ∷ []) (line_of i) (λ _. word_for m)
    (λ _. Sends (step slots (line_of i) (word_for m) 0 none) (producing kind sent true misses, (i, Some m) ∷ []) (word_for m))
sends_message plan slots id kind sent misses i m place stream s stands len at less =
    let q = stands.queue in
    let lists : Lists = stands.lists in
    let told = (stands.seats id (producing kind sent true misses) at).sender refl in
    let slots_are : slots ≡ plan.slots = sym len ∙ q.slot_each in
    let there : length lists.sent % plan.slots ≡ i = sym (place ∙ ap (λ l. length l % slots) told.1 ∙ ap (λ k. length lists.sent % k) slots_are) in
    let after : Lists = record lists { sent = lists.sent ++ m ∷ []; filling = false } in
    let changed = sends plan.kind plan.slots s.words s.homes lists q m (sym told.2) (subst (λ l. IsStream plan.kind (l ++ m ∷ [])) told.1 (subst (λ k. IsStream k (sent ++ m ∷ [])) told.3 stream)) in (
      record (producing kind sent true misses) { sent = sent ++ m ∷ []; filling = false },
      gives,
      tt,
      record {
        lists = after;
        producer = stands.producer;
        consumer = stands.consumer;
        queue = subst (λ p. OwnerWords plan.kind plan.slots (set s.words (line_of p) (word_for m)) (set s.homes p (some (Some m))) after) there changed;
        seats = after_sender plan.kind stands.producer stands.consumer lists s.views (record (producing kind sent true misses) { sent = sent ++ m ∷ []; filling = false }) (lists.sent ++ m ∷ []) false stands.seats
            (record { sender = λ _. (refl, ap (λ l. l ++ m ∷ []) told.1, refl, told.3); receiver = λ e. absurd (true≢false (sym e)) }) id told.0;
      },
      refl,
    )

pub looks_for_message : (plan : Plan) (slots id : ℕ) (kind : PortKind) (received : List Msg) (misses i : ℕ) → i ≡ length received % slots
    → Allows (Stands plan) slots id (consuming kind received None misses, []) (line_of i) (λ n. n) (LooksForMessage (step slots (line_of i) 0 0 none) (consuming kind received None misses, []))
looks_for_message plan slots id kind received misses i place s stands len at less =
    let q = stands.queue in
    let lists : Lists = stands.lists in
    let told = (stands.seats id (consuming kind received None misses) at).receiver refl in
    let slots_are : slots ≡ plan.slots = sym len ∙ q.slot_each in
    let there : i ≡ length lists.received % plan.slots = place ∙ ap (λ l. length l % slots) told.1 ∙ ap (λ k. length lists.received % k) slots_are in
    let same : s.words ≡ set s.words (line_of i) (word_at s.words i) = sym (set-get_or s.words (line_of i) 0) in
    let idle : lists.noted ≡ None = sym told.2 in
    dite (dec_le (2 ^ 63) (word_at s.words i))
    (λ full.
    let found = has_message plan.kind plan.slots s.words s.homes lists q (subst (λ p. IsConsumers (word_at s.words p)) there full) in
    let m : Msg = found.0 in
    let opened = opens_pop plan.kind plan.slots s.words s.homes lists q m idle found.1 in
    let stream : IsStream plan.kind lists.sent = elim q.stream [
      | inl none_sent ↦ absurd (some-ne-none m (sym (ap (λ l. get_elem? l (length lists.received)) (sym none_sent) ∙ found.1)))
      | inr stream ↦ stream
    ] in
    let more = prefix_next lists.received lists.sent m q.in_order found.1 in
    let front : IsStream plan.kind (lists.received ++ m ∷ []) = stream_so_far plan.kind lists.received m more.0 (subst (IsStream plan.kind) (sym more.1) stream) in (
      record (consuming kind received None misses) { noted = Some m },
      takes i (Some m),
      ap (λ p. get_elem? s.homes p) there ∙ full_slot plan.kind plan.slots s.words s.homes lists q m idle found.1,
      record {
        lists = record lists { noted = Some m };
        producer = stands.producer;
        consumer = stands.consumer;
        queue = subst (λ ws. OwnerWords plan.kind plan.slots ws (set s.homes i none) (record lists { noted = Some m })) same
            (subst (λ p. OwnerWords plan.kind plan.slots s.words (set s.homes p none) (record lists { noted = Some m })) (sym there) opened);
        seats = after_receiver plan.kind stands.producer stands.consumer lists s.views (record (consuming kind received None misses) { noted = Some m }) lists.received (Some m) stands.seats
            (record { sender = λ e. absurd (true≢false (sym e)); receiver = λ _. (refl, told.1, refl, told.3) }) id told.0;
      },
      record {
        none = λ empty. absurd (omega arith);
        some = λ _. record { message = m; seat = taken_at (record (consuming kind received None misses) { noted = Some m }) i (Some m); stream = subst (λ k. IsStream k (received ++ m ∷ [])) (sym told.3) (subst (λ l. IsStream plan.kind (l ++ m ∷ [])) (sym told.1) front) };
      },
    ))
    (λ not_full. (
      missed (consuming kind received None misses),
      keeps,
      tt,
      record {
        lists = lists;
        producer = stands.producer;
        consumer = stands.consumer;
        queue = subst (λ ws. OwnerWords plan.kind plan.slots ws s.homes lists) same q;
        seats = after_receiver plan.kind stands.producer stands.consumer lists s.views (missed (consuming kind received None misses)) lists.received lists.noted stands.seats
            (record { sender = λ e. absurd (true≢false (sym e)); receiver = λ _. (refl, told.1, told.2, told.3) }) id told.0;
      },
      record { none = λ _. refl; some = λ full. absurd (omega arith) },
    ))

pub receives_message : (plan : Plan) (slots id : ℕ) (kind : PortKind) (received : List Msg) (misses i : ℕ) (m : Msg) (word : ℕ) → i ≡ length received % slots → IsProducers word
    → Allows (Stands plan) slots id (consuming kind received (Some m) misses, (i, None) ∷ []) (line_of i) (λ _. word)
    (λ _. Receives (step slots (line_of i) word 0 none) (consuming kind received (Some m) misses, (i, None) ∷ []) word)
receives_message plan slots id kind received misses i m word place producers s stands len at less =
    let q = stands.queue in
    let lists : Lists = stands.lists in
    let told = (stands.seats id (consuming kind received (Some m) misses) at).receiver refl in
    let slots_are : slots ≡ plan.slots = sym len ∙ q.slot_each in
    let there : length lists.received % plan.slots ≡ i = sym (place ∙ ap (λ l. length l % slots) told.1 ∙ ap (λ k. length lists.received % k) slots_are) in
    let after : Lists = record lists { received = lists.received ++ m ∷ []; noted = None } in
    let changed = receives plan.kind plan.slots s.words s.homes lists q m word (sym told.2) producers in (
      record (consuming kind received (Some m) misses) { received = received ++ m ∷ []; noted = None },
      gives,
      tt,
      record {
        lists = after;
        producer = stands.producer;
        consumer = stands.consumer;
        queue = subst (λ p. OwnerWords plan.kind plan.slots (set s.words (line_of p) word) (set s.homes p (some None)) after) there changed;
        seats = after_receiver plan.kind stands.producer stands.consumer lists s.views (record (consuming kind received (Some m) misses) { received = received ++ m ∷ []; noted = None }) (lists.received ++ m ∷ []) None stands.seats
            (record { sender = λ e. absurd (true≢false (sym e)); receiver = λ _. (refl, ap (λ l. l ++ m ∷ []) told.1, refl, told.3) }) id told.0;
      },
      refl,
    )

pub splits_roles : (plan : Plan) (id : ℕ) (kind : PortKind) (sent received : List Msg) (misses : ℕ)
    → Splits (Stands plan) id (owning kind sent received misses) (sending_part (owning kind sent received misses)) (taking_part (owning kind sent received misses))
splits_roles plan id kind sent received misses s stands at = record {
  lists = stands.lists;
  producer = id;
  consumer = length (set s.views id (producing kind sent false 0));
  queue = stands.queue;
  seats = after_split plan.kind stands.producer stands.consumer stands.lists s.views id kind sent received misses stands.seats at;
}

pub joins_roles : (plan : Plan) (id : ℕ) (k : PortKind) (sent : List Msg) (x other : ℕ) (l : PortKind) (received : List Msg) (y : ℕ) (left : View)
    → Joins (Stands plan) id (producing k sent false x) other (consuming l received None y) (joined (producing k sent false x) (consuming l received None y)) (remembering left)
joins_roles plan id k sent x other l received y left s stands at apart at_other = record {
  lists = stands.lists;
  producer = id;
  consumer = id;
  queue = stands.queue;
  seats = after_join plan.kind stands.producer stands.consumer stands.lists s.views id other k l sent received x y left stands.seats at apart at_other;
}

pub splits_memory : (plan : Plan) (id : ℕ) (view : View) → Splits (Stands plan) id view view (remembering view)
splits_memory plan id view s stands at = record {
  lists = stands.lists;
  producer = stands.producer;
  consumer = stands.consumer;
  queue = stands.queue;
  seats = after_memory plan.kind stands.producer stands.consumer stands.lists s.views id view stands.seats at;
}

empty_homes : {A : Type 0} (n i : ℕ) (x : A) → i < n → get_elem? (map some (replicate n x)) i ≡ some (some x)
empty_homes zero i x less = absurd (omega arith)
empty_homes (suc n) zero x less = refl
empty_homes (suc n) (suc i) x less = empty_homes n i x (omega arith)

first_fits : (plan : Plan) (seat : ℕ) (view : View) → get_elem? (owning plan.kind [] [] 0 ∷ []) seat ≡ some view
    → Fits plan.kind 0 0 (record { sent = []; received = []; filling = false; noted = None }) seat view
first_fits plan zero view e =
    subst (λ v. Fits plan.kind 0 0 (record { sent = []; received = []; filling = false; noted = None }) 0 v) (some-injective (owning plan.kind [] [] 0) view e)
    (record { sender = λ _. (refl, refl, refl, refl); receiver = λ _. (refl, refl, refl, refl) })
first_fits plan (suc k) view e = absurd (some-ne-none view (sym e))

-- a new queue: nothing was sent, all slots are empty, and all words are the producer's
pub starts : (plan : Plan) (words : List ℕ) → 0 < plan.slots → length words ≡ line_of plan.slots → ((place : ℕ) → place < plan.slots → IsProducers (word_at words place))
    → Stands plan (opening words (replicate plan.slots None) (owning plan.kind [] [] 0))
starts plan words positive len free = record {
  lists = record { sent = []; received = []; filling = false; noted = None };
  producer = 0;
  consumer = 0;
  queue = record {
    some_place = positive;
    line_each = len;
    slot_each = length-map (replicate plan.slots None) some ∙ length-replicate plan.slots None;
    in_order = ([], refl);
    within = omega arith;
    words_between = λ n m under. absurd (some-ne-none m (sym under.1));
    words_other = λ place less vacant. free place less;
    slots_between = λ n m under out. absurd (some-ne-none m (sym under.1));
    slots_other = λ place less vacant out. empty_homes plan.slots place None less;
    push_turn = λ e. absurd (true≢false (sym e));
    pop_turn = λ m e. cc;
    stream = inl refl;
  };
  seats = first_fits plan;
}

fresh_word : (n place : ℕ) → place < n → IsProducers (word_at (replicate (line_of n) 0) place)
fresh_word n place less = subst IsProducers (sym (get_or-replicate (line_of n) (line_of place) 0 0 (omega (arith, less)))) (omega arith)

pub starts_as : (plan : Plan) (words : List ℕ) → 0 < plan.slots → words ≡ replicate (line_of plan.slots) 0 → Stands plan (opening words (replicate plan.slots None) (owning plan.kind [] [] 0))
starts_as plan words positive are =
    subst (λ ws. Stands plan (opening ws (replicate plan.slots None) (owning plan.kind [] [] 0))) (sym are)
    (starts plan (replicate (line_of plan.slots) 0) positive (length-replicate (line_of plan.slots) 0) (λ place less. fresh_word plan.slots place less))

pub splits_as : (plan : Plan) (id : ℕ) (kind : PortKind) (me : Seated) → me ≡ (owning kind [] [] 0, []) → Splits (Stands plan) id me.0 (sending_part me.0) (taking_part me.0)
splits_as plan id kind me is = subst (λ (x : Seated). Splits (Stands plan) id x.0 (sending_part x.0) (taking_part x.0)) (sym is) (splits_roles plan id kind [] [] 0)

pub joins_as : (plan : Plan) (id : ℕ) (k : PortKind) (sent : List Msg) (x other : ℕ) (l : PortKind) (received : List Msg) (y : ℕ) (left : View) (me you : Seated) → me ≡ (producing k sent false x, []) → you ≡ (consuming l received None y, [])
    → Joins (Stands plan) id me.0 other you.0 (joined me.0 you.0) (remembering left)
joins_as plan id k sent x other l received y left me you is are =
    subst (λ (v : Seated). Joins (Stands plan) id v.0 other you.0 (joined v.0 you.0) (remembering left)) (sym is)
    (subst (λ (w : Seated). Joins (Stands plan) id (producing k sent false x) other w.0 (joined (producing k sent false x) w.0) (remembering left)) (sym are) (joins_roles plan id k sent x other l received y left))
