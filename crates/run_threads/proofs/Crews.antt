-- Rounds keep a crew standing.
use Rattle.std.proofs.Common.{◌≡◌, ℕ, ◌+◌, ◌*◌, ◌/◌, ◌%◌, ◌<◌, List, length, get_or, Option, Some, None, refl, sym, ap, ◌∙◌, subst, arith}
use Rattle.std.specs.Prelude.{slice_get, IfOk, IfErr}
use Rattle.std.specs.declared.result.Result.{Result}
use Rattle.std.specs.declared.result.Result.TheVariants.{Ok, Err}
use Rattle.std.proofs.lemmas.Option.{none-some, same_Some, slice_get-get_or, slice_get_within}
use Rattle.atomic_table.specs.Seated.{TableId}
use Rattle.cs_base.specs.declared.link.Link.{Link}
use Rattle.device_api.specs.Behaviour.{Behaviour, IsLawful}
use Rattle.run_laws.proofs.Lists.{there_below}
use Rattle.sb_message.specs.declared.message.Msg.{Msg}
use Rattle.slot_queue.specs.declared.ends.TxEnd.{TxEnd}
use Rattle.slot_queue.specs.declared.ends.RxEnd.{RxEnd}
use Rattle.slot_queue.specs.Ends.{Sender, Receiver}
use Rattle.slot_queue.specs.EndLaws.{push_adds, push_kind, refusal_keeps, refusal_kind, pop_adds, pop_streams, pop_kind, empty_keeps, empty_kind}
use Rattle.sync_drive.specs.Tries.{EndAt, IsTried, AreTried}
use Rattle.sync_drive.specs.Tries.IsTried.{it_went, it_stayed, untouched}
use Rattle.sync_drive.proofs.Fit.{turn_stands}
use Rattle.sync_drive.proofs.Moves.{turn_tries}
use Rattle.sync_drive.proofs.Plans.{turn_keeps}
use Rattle.sync_laws.proofs.Steps.{KeepsPlans}
use Rattle.worker_rounds.specs.Passes.{Went, EachWent}
use Rattle.worker_rounds.specs.Passes.Went.{stood, turned}
use Rattle.worker_rounds.specs.Rounds.{Work, Worked}
use Rattle.worker_rounds.specs.Rounds as rounds
use Rattle.worker_rounds.specs.Rounds.Went.{went_well, went_wrong}
use Rattle.worker_rounds.specs.Crew.{AreSound, AllWorked}
use Rattle.worker_rounds.proofs.Working.{all_in, some_none}
use Rattle.run_threads.specs.declared.part.Part.{Part}
use Rattle.run_threads.specs.Parts.{tx_kind, tx_stands, tx_pushes, tx_refuses, rx_kind, rx_stands, rx_pops, rx_empties, PartFits, PartDid, PartFailed}
use Rattle.run_threads.specs.CrewOf.{members_of, IsPartOf, HasPart, IsCrewOf}

pub tx_name : (before after : TxEnd) → IsTried tx_pushes tx_refuses before after → after.seat.queue ≡ before.seat.queue
tx_name before after (it_went m pushed) = ap (λ (s : Sender). s.queue) pushed
tx_name before after (it_stayed refused) = ap (λ (s : Sender). s.queue) refused.after
tx_name before after (untouched same) = ap (λ (end : TxEnd). end.seat.queue) same

pub rx_name : (before after : RxEnd) → IsTried rx_pops rx_empties before after → after.seat.queue ≡ before.seat.queue
rx_name before after (it_went m popped) = ap (λ (r : Receiver). r.queue) popped.after
rx_name before after (it_stayed emptied) = ap (λ (r : Receiver). r.queue) emptied
rx_name before after (untouched same) = ap (λ (end : RxEnd). end.seat.queue) same

-- an end at a port is of the queue that the end there was of
pub record WasOf {E : Type 0} (name : E → TableId) (ends : List E) (port : ℕ) (queue : TableId) : Type 0 where
  pub before : E
  pub there : slice_get ends port ≡ Some before
  pub same : queue ≡ name before

pub was_of : {E : Type 0} (name : E → TableId) (moves : E → Msg → E → Type 0) (stays : E → E → Type 0) → ((before after : E) → IsTried moves stays before after → name after ≡ name before) → (ends ends' : List E) → AreTried moves stays ends ends' → (port : ℕ) (one : E) → slice_get ends' port ≡ Some one → WasOf name ends port (name one)
was_of name moves stays kept ends ends' tried port one there =
    let at : EndAt ends ends' port (IsTried moves stays) = tried.each port (let within : port < length ends' = slice_get_within ends' port one there in let many : length ends' ≡ length ends = tried.as_many in omega arith) in
    record { before = at.before; there = at.there; same = ap name (same_Some one at.after (sym there ∙ at.left)) ∙ kept at.before at.after at.is }

pub element : {X : Type 0} (xs : List X) (i : ℕ) (x d : X) → slice_get xs i ≡ Some x → get_or xs i d ≡ x
element xs i x d there = same_Some (get_or xs i d) x (sym (slice_get-get_or xs i d (slice_get_within xs i x there)) ∙ there)

module _ {V : Type 0} (b : Behaviour V) (settled : V → ℕ → Type 0) (lawful : IsLawful b settled) (links : List Link) (end : ℕ) (near far : List TableId) where
  pub did_keeps : (c : ℕ) (start : V) (old new : Part V) → IsPartOf b settled links end near far c start old → PartDid b settled old new → IsPartOf b settled links end near far c start new
  did_keeps c start old new is did = record {
    component = did.component ∙ is.component;
    stands = turn_stands b settled lawful tx_kind tx_stands rx_kind rx_stands rx_pops rx_empties (λ x y m received popped of. pop_adds x.seat y.seat m received popped of) (λ x y m received popped of. pop_streams x.seat y.seat m received popped of) (λ x y m popped. pop_kind x.seat y.seat m popped) (λ x y received emptied of. empty_keeps x.seat y.seat received emptied of) (λ x y emptied. empty_kind x.seat y.seat emptied) tx_pushes tx_refuses (λ x y m sent pushed of stream. push_adds x.seat y.seat m sent pushed of) (λ x y m pushed. push_kind x.seat y.seat m pushed) (λ x y sent refused of. refusal_keeps x.seat y.seat sent refused of) (λ x y refused. refusal_kind x.seat y.seat refused) start old.driver.runner new.driver.runner old.driver.txs.items new.driver.txs.items old.driver.rxs.items new.driver.rxs.items did.turn is.stands did.turned;
    end_is = plan.same_end ∙ is.end_is;
    plans = plan.outs ∙ is.plans;
    departs = λ k ch at from. ap (λ (l : List ℕ). slice_get l ch.from.port) did.departures ∙ is.departs k ch at from;
    arrives = λ k ch at to. ap (λ (l : List ℕ). slice_get l ch.to.port) did.arrivals ∙ is.arrives k ch at to;
    sends_on = λ k ch one at from there. (let was : WasOf (λ (x : TxEnd). x.seat.queue) old.driver.txs.items ch.from.port one.seat.queue = was_of (λ (x : TxEnd). x.seat.queue) tx_pushes tx_refuses tx_name old.driver.txs.items new.driver.txs.items tries.0 ch.from.port one there in is.sends_on k ch was.before at from was.there ∙ ap Some (sym was.same));
    receives_on = λ k ch one at to there. (let was : WasOf (λ (x : RxEnd). x.seat.queue) old.driver.rxs.items ch.to.port one.seat.queue = was_of (λ (x : RxEnd). x.seat.queue) rx_pops rx_empties rx_name old.driver.rxs.items new.driver.rxs.items tries.1 ch.to.port one there in is.receives_on k ch was.before at to was.there ∙ ap Some (sym was.same));
  }
    where
      plan : KeepsPlans old.driver.runner new.driver.runner
      plan = turn_keeps b tx_pushes tx_refuses rx_pops rx_empties old.driver.runner new.driver.runner old.driver.txs.items new.driver.txs.items old.driver.rxs.items new.driver.rxs.items did.turn did.turned

      tries : AreTried tx_pushes tx_refuses old.driver.txs.items new.driver.txs.items × AreTried rx_pops rx_empties old.driver.rxs.items new.driver.rxs.items
      tries = turn_tries b tx_pushes tx_refuses rx_pops rx_empties old.driver.runner old.driver.txs.items old.driver.rxs.items new.driver.runner new.driver.txs.items new.driver.rxs.items did.turn did.turned

  went_keeps : (c : ℕ) (start : V) (old : Part V) (n : ℕ) (new : Part V) → IsPartOf b settled links end near far c start old → Went (PartDid b settled) old n new → IsPartOf b settled links end near far c start new
  went_keeps c start old _ _ is stood = is
  went_keeps c start old _ _ is (turned n mid new before last) = did_keeps c start mid new (went_keeps c start old n mid is before) last

  -- a worker before and after its rounds, which met no fault
  record WentOn (old new : List (Work (Part V))) (w : ℕ) : Type 0 where
    before : Work (Part V)
    after : Work (Part V)
    at_before : slice_get old w ≡ Some before
    at_after : slice_get new w ≡ Some after
    turns : ℕ
    went : EachWent (PartDid b settled) turns before.members after.members

  -- a member before and after
  record MemberOn (before after : List (Part V)) (k n : ℕ) (old : Part V) : Type 0 where
    new : Part V
    there : slice_get after k ≡ Some new
    went : Went (PartDid b settled) old n new

  member_on : (before after : List (Part V)) (n : ℕ) → EachWent (PartDid b settled) n before after → (k : ℕ) (old : Part V) → slice_get before k ≡ Some old → MemberOn before after k n old
  member_on before after n went k old there =
      let within : k < length before = slice_get_within before k old there in
      record {
        new = get_or after k old;
        there = slice_get-get_or after k old (let many : length after ≡ length before = went.as_many in omega arith);
        went = subst (λ x. Went (PartDid b settled) x n (get_or after k old)) (element before k old old there) (went.each k old within);
      }

  module _ (old new : List (Work (Part V))) (worked : AllWorked (PartDid b settled) PartFailed (PartFits b settled) old new) (sound : AreSound (PartFits b settled) new) where
    went_of : (before after : Work (Part V)) → Worked (PartDid b settled) PartFailed (PartFits b settled) before after → after.fault ≡ None → (n : ℕ) × EachWent (PartDid b settled) n before.members after.members
    went_of before after did none = from did.went
      where
        from : rounds.Went (PartDid b settled) PartFailed before after → (n : ℕ) × EachWent (PartDid b settled) n before.members after.members
        from (went_well n each no_fault) = (n, each)
        from (went_wrong fault failed kept) = absurd (some_none fault after.fault kept none)

    went_on : (w : ℕ) → w < length old → WentOn old new w
    went_on w within =
        let before = there_below old w within in
        let within' : w < length new = (let many : length new ≡ length old = worked.as_many in omega arith) in
        let after = there_below new w within' in
        let same = element old w before.0 before.0 before.1 in
        let same' = element new w after.0 before.0 after.1 in
        let did : Worked (PartDid b settled) PartFailed (PartFits b settled) before.0 after.0 = subst (λ x. Worked (PartDid b settled) PartFailed (PartFits b settled) x after.0) same (subst (Worked (PartDid b settled) PartFailed (PartFits b settled) (get_or old w before.0)) same' (worked.each w before.0 within)) in
        let none : after.0.fault ≡ None = ap (λ (x : Work (Part V)). x.fault) (sym same') ∙ (all_in (PartDid b settled) PartFailed (PartFits b settled) (rounds.IsSound (PartFits b settled)) new sound w before.0 within').no_fault in
        let went = went_of before.0 after.0 did none in
        record { before = before.0; after = after.0; at_before = before.1; at_after = after.1; turns = went.0; went = went.1 }

    -- a member that is there is on a worker that is there
    worker_there : (w k : ℕ) (part : Part V) (workers : List (Work (Part V))) → slice_get (members_of (slice_get workers w)) k ≡ Some part → w < length workers
    worker_there w k part workers there = at (slice_get workers w) refl
      where
        at : (o : Option (Work (Part V))) → slice_get workers w ≡ o → w < length workers
        at None e = absurd (none-some part (sym (ap (λ (x : Option (Work (Part V))). slice_get (members_of x) k) e) ∙ there))
        at (Some worker) e = slice_get_within workers w worker e

    part_kept : (c : ℕ) (start : V) → HasPart b settled links end near far old c start → HasPart b settled links end near far new c start
    part_kept c start has =
        let w : ℕ = c % length old in
        let k : ℕ = c / length old in
        let on = went_on w (worker_there w k has.part old has.there) in
        let member = member_on on.before.members on.after.members on.turns on.went k has.part (sym (ap (λ (x : Option (Work (Part V))). slice_get (members_of x) k) on.at_before) ∙ has.there) in
        record {
          part = member.new;
          there = ap (λ (n : ℕ). slice_get (members_of (slice_get new (c % n))) (c / n)) worked.as_many ∙ ap (λ (x : Option (Work (Part V))). slice_get (members_of x) k) on.at_after ∙ member.there;
          is = went_keeps c start has.part on.turns member.new has.is member.went;
        }

    dealt_kept : (count : ℕ) → ((w k : ℕ) (part : Part V) → w < length old → slice_get (members_of (slice_get old w)) k ≡ Some part → w + k * length old < count) → (w k : ℕ) (part : Part V) → w < length new → slice_get (members_of (slice_get new w)) k ≡ Some part → w + k * length new < count
    dealt_kept count dealt w k part within there =
        let in_old : w < length old = (let many : length new ≡ length old = worked.as_many in omega arith) in
        let on = went_on w in_old in
        let k_new : k < length on.after.members = slice_get_within on.after.members k part (sym (ap (λ (x : Option (Work (Part V))). slice_get (members_of x) k) on.at_after) ∙ there) in
        let before = there_below on.before.members k (let many : length on.after.members ≡ length on.before.members = on.went.as_many in omega arith) in
        subst (λ (n : ℕ). w + k * n < count) (sym worked.as_many) (dealt w k before.0 in_old (ap (λ (x : Option (Work (Part V))). slice_get (members_of x) k) on.at_before ∙ before.1))

    pub crew_kept : (starts : List V) → IsCrewOf b settled starts links end near far old → IsCrewOf b settled starts links end near far new
    crew_kept starts of = record {
      wired = of.wired;
      some_worker = (let many : length new ≡ length old = worked.as_many in let some : 0 < length old = of.some_worker in omega arith);
      sound = sound;
      parts = λ c start starts_so. part_kept c start (of.parts c start starts_so);
      dealt = dealt_kept (length starts) of.dealt;
    }

-- what follows where a call answers Ok
pub if_ok : {A E : Type 0} (result : Result A E) (P Q : Type 0) → (P → Q) → IfOk result (λ _. P) → IfOk result (λ _. Q)
if_ok (Ok x) P Q follows holds = follows holds
if_ok (Err e) P Q follows holds = holds

-- and where it fails
pub if_err : {A E : Type 0} (result : Result A E) (P Q : E → Type 0) → ((e : E) → P e → Q e) → IfErr result P → IfErr result Q
if_err (Ok x) P Q follows holds = holds
if_err (Err e) P Q follows holds = follows e holds
