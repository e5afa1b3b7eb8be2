-- Turns of parts, those that fail too, leave the parts seated.
use Rattle.std.proofs.Common.{◌≡◌, ℕ, ◌+◌, ◌*◌, ◌/◌, ◌%◌, ◌<◌, List, length, get_or, Option, Some, None, refl, sym, ap, ◌∙◌, subst, arith}
use Rattle.std.specs.Prelude.{slice_get}
use Rattle.std.proofs.lemmas.Option.{none-some, same_Some, slice_get-get_or, slice_get_within}
use Rattle.atomic_table.specs.Seated.{TableId}
use Rattle.cs_base.specs.declared.link.Link.{Link}
use Rattle.cs_base.specs.Plan.{End}
use Rattle.device_api.specs.Behaviour.{Behaviour}
use Rattle.device_api.specs.Channels.{Channel, channels}
use Rattle.run_laws.proofs.Lists.{there_below}
use Rattle.slot_queue.specs.declared.ends.TxEnd.{TxEnd}
use Rattle.slot_queue.specs.declared.ends.RxEnd.{RxEnd}
use Rattle.sync_drive.specs.Tries.{AreTried}
use Rattle.sync_drive.proofs.Moves.{turn_tries, failure_tries}
use Rattle.sync_rule.specs.declared.run_bad.RunBad.{RunBad}
use Rattle.worker_rounds.specs.declared.mesh_bad.MeshBad.{MeshBad}
use Rattle.worker_rounds.specs.Passes.{Went}
use Rattle.worker_rounds.specs.Passes.Went.{stood, turned}
use Rattle.worker_rounds.specs.Rounds.{Work}
use Rattle.worker_rounds.specs.Crew.{AllWorked}
use Rattle.crew_members.specs.Faring.{Fared, EachFared, AllFared}
use Rattle.crew_members.specs.Faring.Fared.{fared_well, fared_badly}
use Rattle.crew_members.proofs.Fared.{all_fared}
use Rattle.run_threads.specs.declared.part.Part.{Part}
use Rattle.run_threads.specs.Parts.{tx_pushes, tx_refuses, rx_pops, rx_empties, PartFits, PartDid, PartBroke, PartFailed}
use Rattle.run_threads.specs.Parts.PartFailed.{was_memory, was_introduction}
use Rattle.run_threads.specs.CrewOf.{members_of, part_at}
use Rattle.run_threads.specs.Parting.{txs_of, rxs_of, departures_of, arrivals_of}
use Rattle.run_threads.specs.Seating.{HasEnd, HasChannel, AreAtPorts, IsSeated, StaysSeated}
use Rattle.run_threads.specs.Seating as seating
use Rattle.run_threads.proofs.Crews.{WasOf, was_of, tx_name, rx_name, element}

-- ONE PART

-- the ends of one list are of the same queues as those of another
record AreSameEnds {E : Type 0} (name : E → TableId) (ends ends' : List E) : Type 0 where
  as_many : length ends' ≡ length ends
  each : (p : ℕ) (one : E) → slice_get ends' p ≡ Some one → WasOf name ends p (name one)

same_ends : {E : Type 0} (name : E → TableId) (ends : List E) → AreSameEnds name ends ends
same_ends name ends = record { as_many = refl; each = λ p one there. record { before = one; there = there; same = refl } }

same_then : {E : Type 0} (name : E → TableId) (a b c : List E) → AreSameEnds name a b → AreSameEnds name b c → AreSameEnds name a c
same_then name a b c first more = record {
  as_many = more.as_many ∙ first.as_many;
  each = λ p one there. (let mid = more.each p one there in let old = first.each p mid.before mid.there in record { before = old.before; there = old.there; same = mid.same ∙ old.same });
}

-- a part knows the same channels, and its ends are of the same queues
record StaysPart {V : Type 0} (old new : Part V) : Type 0 where
  departures : new.departures ≡ old.departures
  arrivals : new.arrivals ≡ old.arrivals
  sending : AreSameEnds (λ (x : TxEnd). x.seat.queue) old.driver.txs.items new.driver.txs.items
  receiving : AreSameEnds (λ (x : RxEnd). x.seat.queue) old.driver.rxs.items new.driver.rxs.items

stays_same : {V : Type 0} (part : Part V) → StaysPart part part
stays_same part = record { departures = refl; arrivals = refl; sending = same_ends (λ (x : TxEnd). x.seat.queue) part.driver.txs.items; receiving = same_ends (λ (x : RxEnd). x.seat.queue) part.driver.rxs.items }

stays_then : {V : Type 0} (a b c : Part V) → StaysPart a b → StaysPart b c → StaysPart a c
stays_then a b c first more = record {
  departures = more.departures ∙ first.departures;
  arrivals = more.arrivals ∙ first.arrivals;
  sending = same_then (λ (x : TxEnd). x.seat.queue) a.driver.txs.items b.driver.txs.items c.driver.txs.items first.sending more.sending;
  receiving = same_then (λ (x : RxEnd). x.seat.queue) a.driver.rxs.items b.driver.rxs.items c.driver.rxs.items first.receiving more.receiving;
}

stays_tried : {V : Type 0} (old new : Part V) → new.departures ≡ old.departures → new.arrivals ≡ old.arrivals → AreTried tx_pushes tx_refuses old.driver.txs.items new.driver.txs.items × AreTried rx_pops rx_empties old.driver.rxs.items new.driver.rxs.items → StaysPart old new
stays_tried old new departures arrivals tries = record {
  departures = departures;
  arrivals = arrivals;
  sending = record { as_many = tries.0.as_many; each = λ p one there. was_of (λ (x : TxEnd). x.seat.queue) tx_pushes tx_refuses tx_name old.driver.txs.items new.driver.txs.items tries.0 p one there };
  receiving = record { as_many = tries.1.as_many; each = λ p one there. was_of (λ (x : RxEnd). x.seat.queue) rx_pops rx_empties rx_name old.driver.rxs.items new.driver.rxs.items tries.1 p one there };
}

module _ {V : Type 0} (b : Behaviour V) (settled : V → ℕ → Type 0) where
  did_stays : (old new : Part V) → PartDid b settled old new → StaysPart old new
  did_stays old new did = stays_tried old new did.departures did.arrivals (turn_tries b tx_pushes tx_refuses rx_pops rx_empties old.driver.runner old.driver.txs.items old.driver.rxs.items new.driver.runner new.driver.txs.items new.driver.rxs.items did.turn did.turned)

  broke_stays : (old new : Part V) (bad : RunBad) → PartBroke old new bad → StaysPart old new
  broke_stays old new bad broke = stays_tried old new broke.departures broke.arrivals (failure_tries b tx_pushes tx_refuses rx_pops rx_empties old.driver.runner old.driver.txs.items old.driver.rxs.items new.driver.runner new.driver.txs.items new.driver.rxs.items bad broke.failed)

  failed_stays : (old : Part V) (fault : MeshBad) (new : Part V) → PartFailed old fault new → StaysPart old new
  failed_stays old _ _ (was_memory new broke) = broke_stays old new _ broke
  failed_stays old _ _ (was_introduction new port found broke) = broke_stays old new _ broke

  went_stays : (old : Part V) (n : ℕ) (new : Part V) → Went (PartDid b settled) old n new → StaysPart old new
  went_stays old _ _ stood = stays_same old
  went_stays old _ _ (turned n mid new before last) = stays_then old mid new (went_stays old n mid before) (did_stays mid new last)

  -- THE MEMBERS OF A WORKER

  record HasStayed (new : List (Part V)) (k : ℕ) (old : Part V) : Type 0 where
    part : Part V
    there : slice_get new k ≡ Some part
    stays : StaysPart old part

  record StayMembers (old new : List (Part V)) : Type 0 where
    as_many : length new ≡ length old
    each : (k : ℕ) (part : Part V) → slice_get old k ≡ Some part → HasStayed new k part

  -- by what is said of the elements at each place
  by_places : (old new : List (Part V)) → length new ≡ length old → ((k : ℕ) (d : Part V) → k < length old → StaysPart (get_or old k d) (get_or new k d)) → StayMembers old new
  by_places old new many each = record {
    as_many = many;
    each = λ k part there. (let within : k < length old = slice_get_within old k part there in record { part = get_or new k part; there = slice_get-get_or new k part (omega (arith, many)); stays = subst (λ x. StaysPart x (get_or new k part)) (element old k part part there) (each k part within) });
  }

  fared_stays : (old new : Part V) → Fared (PartDid b settled) PartFailed old new → StaysPart old new
  fared_stays old new (fared_well n went) = went_stays old n new went
  fared_stays old new (fared_badly n mid fault went failed) = stays_then old mid new (went_stays old n mid went) (failed_stays mid fault new failed)

  members_stay : (old new : List (Part V)) → EachFared (PartDid b settled) PartFailed old new → StayMembers old new
  members_stay old new fared = by_places old new fared.as_many (λ k d within. fared_stays (get_or old k d) (get_or new k d) (fared.each k d within))

  -- ALL WORKERS

  module _ (old new : List (Work (Part V))) (fared : AllFared (PartDid b settled) PartFailed old new) where
    record StaysWorker (w : ℕ) : Type 0 where
      before : Work (Part V)
      after : Work (Part V)
      at_before : slice_get old w ≡ Some before
      at_after : slice_get new w ≡ Some after
      stay : StayMembers before.members after.members

    stays_worker : (w : ℕ) → w < length old → StaysWorker w
    stays_worker w within =
        let before = there_below old w within in
        let after = there_below new w (let many : length new ≡ length old = fared.as_many in omega arith) in
        let did : EachFared (PartDid b settled) PartFailed before.0.members after.0.members = subst (λ (x : Work (Part V)). EachFared (PartDid b settled) PartFailed x.members after.0.members) (element old w before.0 before.0 before.1) (subst (λ (x : Work (Part V)). EachFared (PartDid b settled) PartFailed (get_or old w before.0).members x.members) (element new w after.0 before.0 after.1) (fared.each w before.0 within)) in
        record { before = before.0; after = after.0; at_before = before.1; at_after = after.1; stay = members_stay before.0.members after.0.members did }

    -- the same member, before and after
    member_stays : (w k : ℕ) (part : Part V) → w < length old → slice_get (members_of (slice_get old w)) k ≡ Some part → (part' : Part V) × (slice_get (members_of (slice_get new w)) k ≡ Some part') × StaysPart part part'
    member_stays w k part within there =
        let on = stays_worker w within in
        let has = on.stay.each k part (sym (ap (λ (x : Option (Work (Part V))). slice_get (members_of x) k) on.at_before) ∙ there) in
        (has.part, ap (λ (x : Option (Work (Part V))). slice_get (members_of x) k) on.at_after ∙ has.there, has.stays)

    member_was : (w k : ℕ) (part : Part V) → w < length old → slice_get (members_of (slice_get new w)) k ≡ Some part → (part' : Part V) × (slice_get (members_of (slice_get old w)) k ≡ Some part')
    member_was w k part within there =
        let on = stays_worker w within in
        let below : k < length on.after.members = slice_get_within on.after.members k part (sym (ap (λ (x : Option (Work (Part V))). slice_get (members_of x) k) on.at_after) ∙ there) in
        let before = there_below on.before.members k (let many : length on.after.members ≡ length on.before.members = on.stay.as_many in omega arith) in
        (before.0, ap (λ (x : Option (Work (Part V))). slice_get (members_of x) k) on.at_before ∙ before.1)

    worker_of : (w k : ℕ) (part : Part V) (workers : List (Work (Part V))) → slice_get (members_of (slice_get workers w)) k ≡ Some part → w < length workers
    worker_of w k part workers there = at (slice_get workers w) refl
      where
        at : (o : Option (Work (Part V))) → slice_get workers w ≡ o → w < length workers
        at None e = absurd (none-some part (sym (ap (λ (x : Option (Work (Part V))). slice_get (members_of x) k) e) ∙ there))
        at (Some worker) e = slice_get_within workers w worker e

    new_places : (c : ℕ) → part_at new c ≡ slice_get (members_of (slice_get new (c % length old))) (c / length old)
    new_places c = ap (λ (n : ℕ). slice_get (members_of (slice_get new (c % n))) (c / n)) fared.as_many

    part_stays : (c : ℕ) (part : Part V) → part_at old c ≡ Some part → (part' : Part V) × (part_at new c ≡ Some part') × StaysPart part part'
    part_stays c part there = (let has = member_stays (c % length old) (c / length old) part (worker_of (c % length old) (c / length old) part old there) there in (has.0, new_places c ∙ has.1, has.2))

    part_was : (c : ℕ) (part : Part V) → 0 < length old → part_at new c ≡ Some part → (part' : Part V) × (part_at old c ≡ Some part')
    part_was c part some there = member_was (c % length old) (c / length old) part (let within : c % length old < length new = worker_of (c % length old) (c / length old) part new (sym (new_places c) ∙ there) in let many : length new ≡ length old = fared.as_many in omega arith) (sym (new_places c) ∙ there)

    at_ports : {E : Type 0} (ends_of : Part V → List E) (numbers_of : Part V → List ℕ) (name : E → TableId) (side : Channel → End) (links : List Link) (names : List TableId) → 0 < length old → ((x y : Part V) → StaysPart x y → numbers_of y ≡ numbers_of x) → ((x y : Part V) → StaysPart x y → AreSameEnds name (ends_of x) (ends_of y)) → AreAtPorts ends_of numbers_of name side links names old → AreAtPorts ends_of numbers_of name side links names new
    at_ports ends_of numbers_of name side links names some numbers ends are = record { of_channel = of_channel; of_part = of_part }
      where
        of_channel : (k : ℕ) (ch : Channel) → slice_get (channels links) k ≡ Some ch → HasEnd ends_of numbers_of name names new (side ch) k
        of_channel k ch at =
            let was = are.of_channel k ch at in
            let is = part_stays (side ch).component was.part was.there in
            let same : AreSameEnds name (ends_of was.part) (ends_of is.0) = ends was.part is.0 is.2 in
            let one = there_below (ends_of is.0) (side ch).port (let many : length (ends_of is.0) ≡ length (ends_of was.part) = same.as_many in let within : (side ch).port < length (ends_of was.part) = slice_get_within (ends_of was.part) (side ch).port was.one was.here in omega arith) in
            let before = same.each (side ch).port one.0 one.1 in
            record {
              part = is.0;
              there = is.1;
              one = one.0;
              here = one.1;
              numbered = ap (λ (l : List ℕ). slice_get l (side ch).port) (numbers was.part is.0 is.2) ∙ was.numbered;
              named = was.named ∙ ap (λ e. Some (name e)) (same_Some was.one before.before (sym was.here ∙ before.there)) ∙ ap Some (sym before.same);
            }

        of_part : (c p : ℕ) (part : Part V) → part_at new c ≡ Some part → p < length (ends_of part) → HasChannel side links c p
        of_part c p part there below =
            let was = part_was c part some there in
            let is = part_stays c was.0 was.1 in
            let same : is.0 ≡ part = same_Some is.0 part (sym is.1 ∙ there) in
            are.of_part c p was.0 was.1 (let many : length (ends_of is.0) ≡ length (ends_of was.0) = (ends was.0 is.0 is.2).as_many in let within : p < length (ends_of is.0) = subst (λ x. p < length (ends_of x)) (sym same) below in omega arith)

    pub fared_seated : StaysSeated old new
    fared_seated components links near far seated = record {
      some_worker = (let many : length new ≡ length old = fared.as_many in let some : 0 < length old = seated.some_worker in omega arith);
      each = λ c below. (let was = seated.each c below in let is = part_stays c was.0 was.1 in (is.0, is.1));
      no_other = λ w k part within there. (let in_old : w < length old = (let many : length new ≡ length old = fared.as_many in omega arith) in let was = member_was w k part in_old there in subst (λ (n : ℕ). w + k * n < components) (sym fared.as_many) (seated.no_other w k was.0 in_old was.1));
      sending = at_ports txs_of departures_of seating.tx_name (λ (ch : Channel). ch.from) links near seated.some_worker (λ x y stays. stays.departures) (λ x y stays. stays.sending) seated.sending;
      receiving = at_ports rxs_of arrivals_of seating.rx_name (λ (ch : Channel). ch.to) links far seated.some_worker (λ x y stays. stays.arrivals) (λ x y stays. stays.receiving) seated.receiving;
    }

  pub stays_seated : (old new : List (Work (Part V))) → AllWorked (PartDid b settled) PartFailed (PartFits b settled) old new → StaysSeated old new
  stays_seated old new worked = fared_seated old new (all_fared (PartDid b settled) PartFailed (PartFits b settled) old new worked)
