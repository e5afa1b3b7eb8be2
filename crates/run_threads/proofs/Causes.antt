-- What the parts of a crew have sent and received after rounds, of which one may have met a fault.
use Rattle.std.proofs.Common.{◌≡◌, ℕ, ◌+◌, ◌*◌, ◌/◌, ◌%◌, ◌<◌, List, ◌∷◌, length, get_or, Option, Some, None, option_map, refl, sym, ap, ◌∙◌, subst, arith}
use Rattle.std.specs.Prelude.{slice_get, option_and_then}
use Rattle.std.proofs.Math.Nat.{mod-add-div'}
use Rattle.std.proofs.lemmas.Nat.{mod_below}
use Rattle.std.proofs.lemmas.Option.{none-some, same_Some, slice_get-get_or, slice_get_within}
use Rattle.atomic_table.specs.Seated.{TableId}
use Rattle.cs_base.specs.declared.link.Link.{Link}
use Rattle.cs_base.specs.declared.peer_reason.PeerReason.TheVariants.{Intro}
use Rattle.cs_base.specs.declared.port_kind.PortKind.{PortKind}
use Rattle.sb_message.specs.declared.message.Msg.{Msg}
use Rattle.device_api.specs.Behaviour.{Behaviour, IsLawful}
use Rattle.device_api.specs.Channels.{Channel, channels}
use Rattle.device_api.specs.Transcript.{introduction}
use Rattle.global_model.specs.Step.{network}
use Rattle.run_laws.specs.Wired.{IsChannel}
use Rattle.run_laws.proofs.Lists.{there_below}
use Rattle.slot_queue.specs.declared.ends.TxEnd.{TxEnd}
use Rattle.slot_queue.specs.declared.ends.RxEnd.{RxEnd}
use Rattle.slot_queue.specs.Ends.{Sender}
use Rattle.worker_rounds.specs.declared.mesh_bad.MeshBad.{MeshBad}
use Rattle.worker_rounds.specs.declared.mesh_bad.MeshBad.TheVariants.{Peer}
use Rattle.worker_rounds.specs.Passes.{Went}
use Rattle.worker_rounds.specs.Passes.Went.{stood, turned}
use Rattle.worker_rounds.specs.Rounds.{Work}
use Rattle.worker_rounds.specs.Crew.{AllWorked, IsFirstKept}
use Rattle.crew_members.specs.Faring.{Fared, EachFared, OneFailed, AllFared}
use Rattle.crew_members.specs.Faring.Fared.{fared_well, fared_badly}
use Rattle.crew_members.proofs.Fared.{all_fared, member_failed}
use Rattle.run_threads.specs.declared.part.Part.{Part}
use Rattle.run_threads.specs.Parts.{PartFits, PartDid, PartFailed}
use Rattle.run_threads.specs.Parts.PartFailed.{was_memory, was_introduction}
use Rattle.run_threads.specs.CrewOf.{members_of, part_at, sender_at, IsPartOf, IsCrewOf}
use Rattle.run_threads.specs.Faults.{AreIntroduced, IsCause}
use Rattle.run_threads.specs.Faults.IsCause.{no_memory, wrong_introduction}
use Rattle.run_threads.specs.Seating.{IsSeated}
use Rattle.run_threads.proofs.Crews.{element, did_keeps}
use Rattle.run_threads.proofs.Introduced.{HasSent, still_sent, broken_sent, begins_well, IsWrongAt, wrong_at}
use Rattle.run_threads.proofs.SeatedCrew.{crew_seated}
use Rattle.run_threads.proofs.Seatings.{at_turn}
use Rattle.run_threads.proofs.Staying.{fared_seated}

and_then_some : {X Y : Type 0} (f : X → Option Y) (o : Option X) (y : Y) → option_and_then f o ≡ Some y → (x : X) × (o ≡ Some x) × (f x ≡ Some y)
and_then_some f None y is = absurd (none-some y is)
and_then_some f (Some x) y is = (x, refl, is)

mapped_some : {X Y : Type 0} (f : X → Y) (o : Option X) (y : Y) → option_map f o ≡ Some y → (x : X) × (o ≡ Some x) × (f x ≡ y)
mapped_some f None y is = absurd (none-some y is)
mapped_some f (Some x) y is = (x, refl, same_Some (f x) y is)

-- THE MEMBERS OF A WORKER

module _ {V : Type 0} (b : Behaviour V) (settled : V → ℕ → Type 0) (Q : ℕ → Part V → Type 0) (kept : (k : ℕ) (x y : Part V) → Q k x → PartDid b settled x y → Q k y) where
  -- each member is what it should be
  abbrev AreAll : List (Part V) → Type 0
  AreAll members = (k : ℕ) (part : Part V) → slice_get members k ≡ Some part → Q k part

  -- a member after its turns, of which the last may have failed
  data IsAfter (k : ℕ) (part : Part V) : Type 0 where
    is_whole : Q k part → IsAfter k part
    is_broken : (mid : Part V) (fault : MeshBad) → Q k mid → PartFailed mid fault part → IsAfter k part

  went_is : (k : ℕ) (old : Part V) (n : ℕ) (new : Part V) → Q k old → Went (PartDid b settled) old n new → Q k new
  went_is k old _ _ is stood = is
  went_is k old _ _ is (turned n mid new before last) = kept k mid new (went_is k old n mid is before) last

  -- the member that was at the place of this one
  was_at : (old new : List (Part V)) → length new ≡ length old → AreAll old → (k : ℕ) (part : Part V) → slice_get new k ≡ Some part → (k < length old) × Q k (get_or old k part)
  was_at old new many are k part there = (let within : k < length old = (let below : k < length new = slice_get_within new k part there in omega (arith, many)) in (within, are k (get_or old k part) (slice_get-get_or old k part within)))

  -- the member whose turn failed
  record HasFailed (new : List (Part V)) (fault : MeshBad) : Type 0 where
    place : ℕ
    before : Part V
    after : Part V
    was : Q place before
    there : slice_get new place ≡ Some after
    failed : PartFailed before fault after

  after_of : (k : ℕ) (old new : Part V) → Q k old → Fared (PartDid b settled) PartFailed old new → IsAfter k new
  after_of k old new is (fared_well n went) = is_whole (went_is k old n new is went)
  after_of k old new is (fared_badly n mid fault went failed) = is_broken mid fault (went_is k old n mid is went) failed

  members_after : (old new : List (Part V)) → EachFared (PartDid b settled) PartFailed old new → AreAll old → (k : ℕ) (part : Part V) → slice_get new k ≡ Some part → IsAfter k part
  members_after old new fared are k part there = (let was = was_at old new fared.as_many are k part there in after_of k (get_or old k part) part was.1 (subst (Fared (PartDid b settled) PartFailed (get_or old k part)) (element new k part part there) (fared.each k part was.0)))

  has_failed : (old new : List (Part V)) → AreAll old → (fault : MeshBad) → OneFailed (PartDid b settled) PartFailed old new fault → HasFailed new fault
  has_failed old new are fault one = record {
    place = one.place;
    before = one.mid;
    after = one.after;
    was = went_is one.place one.before one.turns one.mid (are one.place one.before one.at_before) one.went;
    there = one.at_after;
    failed = one.failed;
  }

-- ALL WORKERS

module _ {V : Type 0} (b : Behaviour V) (settled : V → ℕ → Type 0) (lawful : IsLawful b settled) (starts : List V) (links : List Link) (end : ℕ) (near far : List TableId) (old new : List (Work (Part V))) (fared : AllFared (PartDid b settled) PartFailed old new) (of : IsCrewOf b settled starts links end near far old) where
  abbrev n : ℕ
  n = length old

  record IsNumbered (c : ℕ) (part : Part V) : Type 0 where
    start : V
    at_start : slice_get starts c ≡ Some start
    is : IsPartOf b settled links end near far c start part

  kept_numbered : (w k : ℕ) (x y : Part V) → IsNumbered (w + k * n) x → PartDid b settled x y → IsNumbered (w + k * n) y
  kept_numbered w k x y numbered did = record { start = numbered.start; at_start = numbered.at_start; is = did_keeps b settled lawful links end near far (w + k * n) numbered.start x y numbered.is did }

  seated : IsSeated (length starts) links near far new
  seated = fared_seated b settled old new fared (length starts) links near far (crew_seated b settled starts links end near far old of)

  record OnWorker (w : ℕ) : Type 0 where
    before : Work (Part V)
    after : Work (Part V)
    at_before : slice_get old w ≡ Some before
    at_after : slice_get new w ≡ Some after
    came : EachFared (PartDid b settled) PartFailed before.members after.members
    are : (k : ℕ) (part : Part V) → slice_get before.members k ≡ Some part → IsNumbered (w + k * n) part

  members_numbered : (w : ℕ) → w < length old → (before : Work (Part V)) → slice_get old w ≡ Some before → (k : ℕ) (part : Part V) → slice_get before.members k ≡ Some part → IsNumbered (w + k * n) part
  members_numbered w within before here k part there =
      let start = there_below starts (w + k * n) (of.dealt w k part within (ap (λ o. slice_get (members_of o) k) here ∙ there)) in
      let has = of.parts (w + k * n) start.0 start.1 in
      let same : has.part ≡ part = same_Some has.part part (sym has.there ∙ at_turn old of.some_worker (length starts) of.dealt w k before here ∙ there) in
      record { start = start.0; at_start = start.1; is = subst (IsPartOf b settled links end near far (w + k * n) start.0) same has.is }

  on_worker : (w : ℕ) → w < length old → OnWorker w
  on_worker w within =
      let before = there_below old w within in
      let after = there_below new w (let many : length new ≡ length old = fared.as_many in omega arith) in
      let did : EachFared (PartDid b settled) PartFailed before.0.members after.0.members = subst (λ (x : Work (Part V)). EachFared (PartDid b settled) PartFailed x.members after.0.members) (element old w before.0 before.0 before.1) (subst (λ (x : Work (Part V)). EachFared (PartDid b settled) PartFailed (get_or old w before.0).members x.members) (element new w after.0 before.0 after.1) (fared.each w before.0 within)) in
      record { before = before.0; after = after.0; at_before = before.1; at_after = after.1; came = did; are = members_numbered w within before.0 before.1 }

  -- WHAT WAS SENT

  record HasSentAt (c : ℕ) (part : Part V) : Type 0 where
    start : V
    at_start : slice_get starts c ≡ Some start
    has : HasSent b settled lawful starts links end near far of.wired c start part.driver.txs.items

  sent_broken : (c : ℕ) (start : V) (mid : Part V) (fault : MeshBad) (part : Part V) → PartFailed mid fault part → IsPartOf b settled links end near far c start mid → HasSent b settled lawful starts links end near far of.wired c start part.driver.txs.items
  sent_broken c start mid _ _ (was_memory part broke) is = broken_sent b settled lawful starts links end near far of.wired c start mid part _ is broke
  sent_broken c start mid _ _ (was_introduction part port found broke) is = broken_sent b settled lawful starts links end near far of.wired c start mid part _ is broke

  sent_after : (w k : ℕ) (part : Part V) → IsAfter b settled (λ j. IsNumbered (w + j * n)) (kept_numbered w) k part → HasSentAt (w + k * n) part
  sent_after w k part (is_whole numbered) = record { start = numbered.start; at_start = numbered.at_start; has = still_sent b settled lawful starts links end near far of.wired (w + k * n) numbered.start part numbered.is }
  sent_after w k part (is_broken mid fault numbered failed) = record { start = numbered.start; at_start = numbered.at_start; has = sent_broken (w + k * n) numbered.start mid fault part failed numbered.is }

  sent_at : (c : ℕ) (part : Part V) → part_at new c ≡ Some part → HasSentAt c part
  sent_at c part there =
      let w : ℕ = c % n in
      let k : ℕ = c / n in
      let place : slice_get (members_of (slice_get new w)) k ≡ Some part = sym (ap (λ (m : ℕ). slice_get (members_of (slice_get new (c % m))) (c / m)) fared.as_many) ∙ there in
      let on = on_worker w (mod_below c n of.some_worker) in
      subst (λ d. HasSentAt d part) (mod-add-div' c n) (sent_after w k part (members_after b settled (λ j. IsNumbered (w + j * n)) (kept_numbered w) on.before.members on.after.members on.came on.are k part (sym (ap (λ o. slice_get (members_of o) k) on.at_after) ∙ place)))

  each_introduced : (k : ℕ) (ch : Channel) (sender : Sender) (start : V) (kind : PortKind) → slice_get (channels links) k ≡ Some ch → sender_at new ch.from ≡ Some sender → IsChannel (network b starts links) ch start kind → (first : Msg) (more : List Msg) → sender.sent ≡ first ∷ more → first ≡ introduction kind ch
  each_introduced k ch sender start kind at there channel first more is =
      let part = and_then_some (λ (p : Part V). option_map (λ (e : TxEnd). e.seat) (slice_get p.driver.txs.items ch.from.port)) (part_at new ch.from.component) sender there in
      let one = mapped_some (λ (e : TxEnd). e.seat) (slice_get part.0.driver.txs.items ch.from.port) sender part.2 in
      let sent = sent_at ch.from.component part.0 part.1 in
      let same : sent.start ≡ start = same_Some sent.start start (sym sent.at_start ∙ channel.sender) in
      let has : HasSent b settled lawful starts links end near far of.wired ch.from.component start part.0.driver.txs.items = subst (λ s. HasSent b settled lawful starts links end near far of.wired ch.from.component s part.0.driver.txs.items) same sent.has in
      begins_well b settled lawful starts links end near far of.wired k ch at start kind channel part.0.driver.txs.items has one.0 one.1 first more (ap (λ (s : Sender). s.sent) one.2 ∙ is)

  pub introduced : AreIntroduced b starts links new
  introduced = record { each = each_introduced }

  -- THE CAUSE OF A FAULT

  cause_of : (c : ℕ) (before : Part V) (fault : MeshBad) (after : Part V) → IsNumbered c before → part_at new c ≡ Some after → PartFailed before fault after → IsCause b starts links new fault
  cause_of c before _ _ numbered there (was_memory after broke) = no_memory
  cause_of c before _ _ numbered there (was_introduction after port found broke) =
      let wrong : IsWrongAt b settled lawful starts links end near far of.wired c after before.arrivals port = wrong_at b settled lawful starts links end near far of.wired c numbered.start numbered.at_start before after port found numbered.is broke in
      subst (λ k. IsCause b starts links new (Peer k 0 Intro)) (sym wrong.numbered) (wrong_introduction wrong.number (record {
        channel = wrong.channel;
        at_number = wrong.at_number;
        receiver = wrong.one.seat;
        there = ap (λ (d : ℕ). option_and_then (λ (p : Part V). option_map (λ (e : RxEnd). e.seat) (slice_get p.driver.rxs.items wrong.channel.to.port)) (part_at new d)) wrong.component_is ∙ ap (option_and_then (λ (p : Part V). option_map (λ (e : RxEnd). e.seat) (slice_get p.driver.rxs.items wrong.channel.to.port))) there ∙ ap (λ q. option_map (λ (e : RxEnd). e.seat) (slice_get after.driver.rxs.items q)) wrong.port_is ∙ ap (option_map (λ (e : RxEnd). e.seat)) wrong.there;
        found = wrong.found;
        received = wrong.received;
        wrong = wrong.wrong;
      }))

  pub cause_at : (w : ℕ) → w < length old → (fault : MeshBad) → ((d : Work (Part V)) → OneFailed (PartDid b settled) PartFailed (get_or old w d).members (get_or new w d).members fault) → IsCause b starts links new fault
  cause_at w within fault one =
      let on = on_worker w within in
      let failed : OneFailed (PartDid b settled) PartFailed on.before.members on.after.members fault = subst (λ (x : Work (Part V)). OneFailed (PartDid b settled) PartFailed x.members on.after.members fault) (element old w on.before on.before on.at_before) (subst (λ (x : Work (Part V)). OneFailed (PartDid b settled) PartFailed (get_or old w on.before).members x.members fault) (element new w on.after on.before on.at_after) (one on.before)) in
      let has = has_failed b settled (λ j. IsNumbered (w + j * n)) (kept_numbered w) on.before.members on.after.members on.are fault failed in
      let there : part_at new (w + has.place * n) ≡ Some has.after = ap (λ (m : ℕ). part_at new (w + has.place * m)) (sym fared.as_many) ∙ at_turn new seated.some_worker (length starts) seated.no_other w has.place on.after on.at_after ∙ has.there in
      cause_of (w + has.place * n) has.before fault has.after has.was there has.failed

pub is_cause : {V : Type 0} (b : Behaviour V) (settled : V → ℕ → Type 0) (lawful : IsLawful b settled) (starts : List V) (links : List Link) (end : ℕ) (near far : List TableId) (old new : List (Work (Part V))) → AllWorked (PartDid b settled) PartFailed (PartFits b settled) old new → IsCrewOf b settled starts links end near far old → (fault : MeshBad) → IsFirstKept new (length new) fault → IsCause b starts links new fault
is_cause {V} b settled lawful starts links end near far old new worked of fault first =
    let within : first.place < length old = (let many : length new ≡ length old = worked.as_many in let below : first.place < length new = first.within in omega arith) in
    cause_at b settled lawful starts links end near far old new (all_fared (PartDid b settled) PartFailed (PartFits b settled) old new worked) of first.place within fault (λ (d : Work (Part V)). member_failed (PartDid b settled) PartFailed (get_or old first.place d) (get_or new first.place d) (worked.each first.place d within).went fault (first.kept d))
