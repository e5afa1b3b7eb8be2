-- What a turn leaves at each port: of a list of tries, what became of each end, and that nothing changed where nothing moved.
use Rattle.std.proofs.Common.{◌≡◌, ℕ, ◌+◌, ◌<◌, ◌≤◌, ◌⊎◌, inl, inr, Bool, true, false, eqb, ltb, List, [], length, Some, refl, sym, ◌∙◌, subst, arith}
use Rattle.std.specs.declared.result.Result.{Result}
use Rattle.std.specs.declared.result.Result.TheVariants.{Ok, Err}
use Rattle.std.specs.Prelude.{slice_get, slice_set, IfOk}
use Rattle.std.proofs.lemmas.Bool.{eqb-true, eqb-false, ltb-true, ltb-false}
use Rattle.std.proofs.lemmas.List.{length-set}
use Rattle.sb_message.specs.declared.message.Msg.{Msg}
use Rattle.device_api.specs.Behaviour.{Behaviour}
use Rattle.run_laws.proofs.Lists.{slice_get-set_same, slice_get-set_other, there_below}
use Rattle.sync_rule.specs.declared.run_bad.RunBad.{RunBad}
use Rattle.sync_rule.specs.declared.run_bad.RunBad.TheVariants.{WrongIntro, NoMemory}
use Rattle.sync_rule.specs.declared.runner.Runner.{Runner}
use Rattle.sync_rule.specs.ManyPorts.{outbox_in}
use Rattle.sync_rule.specs.Steps.{PollsBy}
use Rattle.sync_rule.specs.Events.{EventsRan}
use Rattle.sync_rule.specs.Events.EventsRan.{none_ran, one_more}
use Rattle.sync_drive.specs.declared.turn.Turn.{Turn}
use Rattle.sync_drive.specs.declared.turn.Turn.TheVariants.{Moved}
use Rattle.sync_drive.specs.Tries.{SendsRan, PollsRan, PollsFailed, EndAt, IsTried, AreTried}
use Rattle.sync_drive.specs.Tries.SendsRan.{no_sends, one_sent, one_kept}
use Rattle.sync_drive.specs.Tries.PollsRan.{no_polls, one_heard, one_empty}
use Rattle.sync_drive.specs.Tries.IsTried.{it_went, it_stayed, untouched}
use Rattle.sync_drive.specs.Turns.{Turned, Failed, NothingMoved, Cause}
use Rattle.sync_drive.specs.Turns.Cause.{it_moved, it_is_full, it_is_barred, it_ended}
use Rattle.sync_drive.specs.Turns.Failed.{in_polls, in_events}
use Rattle.sync_drive.proofs.Kept.{sends_length, polls_length}

no_more : (n : ℕ) {A : Type 0} → n + 1 ≡ 0 → A
no_more n none = absurd (omega arith)

-- ONE END AFTER ANOTHER

-- of the ends below a port it is known what became of each, and from the port on they are as they were
record EndsSoFar {E : Type 0} (became : ℕ → E → E → Type 0) (ends now : List E) (k : ℕ) : Type 0 where
  pub done : (p : ℕ) → p < k → EndAt ends now p (became p)
  pub ahead : (p : ℕ) → k ≤ p → slice_get now p ≡ slice_get ends p

module _ {E : Type 0} (became : ℕ → E → E → Type 0) (ends : List E) where
  so_far_none : EndsSoFar became ends ends 0
  so_far_none = record { done = λ p below. absurd (omega arith); ahead = λ p from. refl }

  so_far_more : (now : List E) (k : ℕ) (before after : E) → EndsSoFar became ends now k → slice_get now k ≡ Some before → became k before after → EndsSoFar became ends (slice_set now k after) (k + 1)
  so_far_more now k before after so_far there is = record { done = λ p below. done p below (eqb p k) refl; ahead = λ p from. slice_get-set_other now k p after (λ same. absurd (omega arith)) ∙ so_far.ahead p (omega arith) }
    where
      done : (p : ℕ) → p < k + 1 → (same : Bool) → eqb p k ≡ same → EndAt ends (slice_set now k after) p (became p)
      done p below true e = let here : p ≡ k = eqb-true p k e in subst (λ q. EndAt ends (slice_set now k after) q (became q)) (sym here) (record { before = before; after = after; there = sym (so_far.ahead k (omega arith)) ∙ there; left = slice_get-set_same now k before after there; is = is })
      done p below false e = let differ : p ≡ k → ⊥ = eqb-false p k e in let lower : p < k = omega arith in let at = so_far.done p lower in record { before = at.before; after = at.after; there = at.there; left = slice_get-set_other now k p after (λ same. differ (sym same)) ∙ at.left; is = at.is }

  -- where the end of each port is one of those that one try leaves, so is each end
  all_tried : (moves : E → Msg → E → Type 0) (stays : E → E → Type 0) (now : List E) (k : ℕ) → EndsSoFar (λ p. IsTried moves stays) ends now k → length now ≡ length ends → AreTried moves stays ends now
  all_tried moves stays now k so_far as_many = record { as_many = as_many; each = λ p there. at p there (ltb p k) refl }
    where
      at : (p : ℕ) → p < length ends → (below : Bool) → ltb p k ≡ below → EndAt ends now p (IsTried moves stays)
      at p there true e = so_far.done p (ltb-true p k e)
      at p there false e = let one : (x : E) × (slice_get ends p ≡ Some x) = there_below ends p there in record { before = one.0; after = one.0; there = one.1; left = so_far.ahead p (ltb-false p k e) ∙ one.1; is = untouched refl }

-- SENDS

module _ {V T : Type 0} (pushes : T → Msg → T → Type 0) (refuses : T → T → Type 0) (r : Runner V) (txs : List T) where
  sends_so_far : (k n : ℕ) (s : Runner V) (ts : List T) → SendsRan pushes refuses r txs k n s ts → EndsSoFar (λ p. IsTried pushes refuses) txs ts k
  sends_so_far _ _ _ _ no_sends = so_far_none (λ p. IsTried pushes refuses) txs
  sends_so_far _ _ _ _ (one_sent k n mid new ts before after so_far there passes) = so_far_more (λ p. IsTried pushes refuses) txs ts k before after (sends_so_far k n mid ts so_far) there (it_went passes.m passes.pushed)
  sends_so_far _ _ _ _ (one_kept k n mid new ts before after so_far there keeps) = so_far_more (λ p. IsTried pushes refuses) txs ts k before after (sends_so_far k n mid ts so_far) there (kept keeps.cause)
    where
      kept : (((outbox_in mid.outgoing k ≡ []) × (after ≡ before)) ⊎ refuses before after) → IsTried pushes refuses before after
      kept (inl none) = untouched none.1
      kept (inr full) = it_stayed full

  pub sends_tried : (k n : ℕ) (s : Runner V) (ts : List T) → SendsRan pushes refuses r txs k n s ts → AreTried pushes refuses txs ts
  sends_tried k n s ts ran = all_tried (λ p. IsTried pushes refuses) txs pushes refuses ts k (sends_so_far k n s ts ran) (sends_length pushes refuses r txs k n s ts ran)

  record NoneSent (k : ℕ) (s : Runner V) (ts : List T) : Type 0 where
    pub same : s ≡ r
    pub ends : EndsSoFar (λ p tx tx'. ((outbox_in r.outgoing p ≡ []) × (tx' ≡ tx)) ⊎ refuses tx tx') txs ts k

  none_sent : (k n : ℕ) (s : Runner V) (ts : List T) → SendsRan pushes refuses r txs k n s ts → n ≡ 0 → NoneSent k s ts
  none_sent _ _ _ _ no_sends none = record { same = refl; ends = so_far_none (λ p tx tx'. ((outbox_in r.outgoing p ≡ []) × (tx' ≡ tx)) ⊎ refuses tx tx') txs }
  none_sent _ _ _ _ (one_sent k n mid new ts before after so_far there passes) none = no_more n none
  none_sent _ _ _ _ (one_kept k n mid new ts before after so_far there keeps) none = let earlier = none_sent k n mid ts so_far none in record { same = keeps.unchanged ∙ earlier.same; ends = so_far_more (λ p tx tx'. ((outbox_in r.outgoing p ≡ []) × (tx' ≡ tx)) ⊎ refuses tx tx') txs ts k before after earlier.ends there (subst (λ (x : Runner V). ((outbox_in x.outgoing k ≡ []) × (after ≡ before)) ⊎ refuses before after) earlier.same keeps.cause) }

-- RECEIPTS

module _ {V R : Type 0} (pops : R → Msg → R → Type 0) (empties : R → R → Type 0) (r : Runner V) (rxs : List R) where
  polls_so_far : (k n : ℕ) (s : Runner V) (xs : List R) → PollsRan pops empties r rxs k n s xs → EndsSoFar (λ p. IsTried pops empties) rxs xs k
  polls_so_far _ _ _ _ no_polls = so_far_none (λ p. IsTried pops empties) rxs
  polls_so_far _ _ _ _ (one_heard k n mid new xs before after so_far there receipt) = so_far_more (λ p. IsTried pops empties) rxs xs k before after (polls_so_far k n mid xs so_far) there (it_went receipt.m receipt.popped)
  polls_so_far _ _ _ _ (one_empty k n mid new xs before after so_far there none same) = so_far_more (λ p. IsTried pops empties) rxs xs k before after (polls_so_far k n mid xs so_far) there (it_stayed none)

  pub polls_tried : (k n : ℕ) (s : Runner V) (xs : List R) → PollsRan pops empties r rxs k n s xs → AreTried pops empties rxs xs
  polls_tried k n s xs ran = all_tried (λ p. IsTried pops empties) rxs pops empties xs k (polls_so_far k n s xs ran) (polls_length pops empties r rxs k n s xs ran)

  failed_tried : (bad : RunBad) (mid new : Runner V) (port : ℕ) (before after : R) → PollsBy pops empties before after mid new port (Err bad) → IsTried pops empties before after
  failed_tried (WrongIntro at found) mid new port before after wrong = it_went found wrong.popped
  failed_tried NoMemory mid new port before after same = untouched same

  pub polls_failed_tried : (s : Runner V) (xs : List R) (bad : RunBad) → PollsFailed pops empties r rxs s xs bad → AreTried pops empties rxs xs
  polls_failed_tried s xs bad failed = subst (AreTried pops empties rxs) (sym failed.left) (all_tried (λ p. IsTried pops empties) rxs pops empties (slice_set failed.ends failed.port failed.after) (failed.port + 1) (so_far_more (λ p. IsTried pops empties) rxs failed.ends failed.port failed.before failed.after (polls_so_far failed.port failed.receipts failed.mid failed.ends failed.so_far) failed.there (failed_tried bad failed.mid s failed.port failed.before failed.after failed.failed)) (length-set failed.ends failed.port failed.after ∙ polls_length pops empties r rxs failed.port failed.receipts failed.mid failed.ends failed.so_far))

  record NoneHeard (k : ℕ) (s : Runner V) (xs : List R) : Type 0 where
    pub same : s ≡ r
    pub ends : EndsSoFar (λ p. empties) rxs xs k

  none_heard : (k n : ℕ) (s : Runner V) (xs : List R) → PollsRan pops empties r rxs k n s xs → n ≡ 0 → NoneHeard k s xs
  none_heard _ _ _ _ no_polls none = record { same = refl; ends = so_far_none (λ p. empties) rxs }
  none_heard _ _ _ _ (one_heard k n mid new xs before after so_far there receipt) none = no_more n none
  none_heard _ _ _ _ (one_empty k n mid new xs before after so_far there empty same) none = let earlier = none_heard k n mid xs so_far none in record { same = same ∙ earlier.same; ends = so_far_more (λ p. empties) rxs xs k before after earlier.ends there empty }

-- EVENTS

none_processed : {V : Type 0} (b : Behaviour V) (r : Runner V) (n : ℕ) (s : Runner V) → EventsRan b r n s → n ≡ 0 → s ≡ r
none_processed b r _ _ none_ran none = refl
none_processed b r _ _ (one_more n mid new so_far event) none = no_more n none

-- TURNS

unmoved : {V : Type 0} (b : Behaviour V) (r : Runner V) (moved : ℕ) (turn : Turn) → Cause b r moved turn → (turn ≡ Moved → ⊥) → moved ≡ 0
unmoved b r moved _ (it_moved some) differs = absurd (differs refl)
unmoved b r moved _ (it_is_full port none waits) differs = none
unmoved b r moved _ (it_is_barred port none sent running barred) differs = none
unmoved b r moved _ (it_ended none ended) differs = none

module _ {V T R : Type 0} (b : Behaviour V) (pushes : T → Msg → T → Type 0) (refuses : T → T → Type 0) (pops : R → Msg → R → Type 0) (empties : R → R → Type 0) (old : Runner V) (txs : List T) (rxs : List R) (new : Runner V) (txs' : List T) (rxs' : List R) where
  nothing_moved : (turn : Turn) → Turned b pushes refuses pops empties old txs rxs new txs' rxs' turn → (turn ≡ Moved → ⊥) → NothingMoved b refuses empties old txs rxs new txs' rxs'
  nothing_moved turn made differs =
      let none : made.sends + made.receipts + made.events ≡ 0 = unmoved b new (made.sends + made.receipts + made.events) turn made.cause differs in
      let no_sends_made : made.sends ≡ 0 = omega arith in
      let no_receipts : made.receipts ≡ 0 = omega arith in
      let no_events : made.events ≡ 0 = omega arith in
      let sent = none_sent pushes refuses old txs (length txs) made.sends made.after_sends txs' made.sent no_sends_made in
      let heard = none_heard pops empties made.after_sends rxs (length rxs) made.receipts made.after_polls rxs' made.polled no_receipts in
      record {
        runner = none_processed b made.after_polls made.events new made.ran.ran no_events ∙ heard.same ∙ sent.same;
        unsent = sent.ends.done;
        unheard = heard.ends.done;
        stopped = made.ran.stopped (let few : made.events < 4096 = omega arith in few);
      }

  pub unmoved_if : (answer : Result Turn RunBad) → IfOk answer (Turned b pushes refuses pops empties old txs rxs new txs' rxs') → IfOk answer (λ turn. (turn ≡ Moved → ⊥) → NothingMoved b refuses empties old txs rxs new txs' rxs')
  unmoved_if (Ok turn) made = λ differs. nothing_moved turn made differs
  unmoved_if (Err bad) none = none

  pub turn_tries : (turn : Turn) → Turned b pushes refuses pops empties old txs rxs new txs' rxs' turn → AreTried pushes refuses txs txs' × AreTried pops empties rxs rxs'
  turn_tries turn made = (sends_tried pushes refuses old txs (length txs) made.sends made.after_sends txs' made.sent, polls_tried pops empties made.after_sends rxs (length rxs) made.receipts made.after_polls rxs' made.polled)

  pub failure_tries : (bad : RunBad) → Failed pushes refuses pops empties old txs rxs new txs' rxs' bad → AreTried pushes refuses txs txs' × AreTried pops empties rxs rxs'
  failure_tries _ (in_polls sends mid bad sent failed) = (sends_tried pushes refuses old txs (length txs) sends mid txs' sent, polls_failed_tried pops empties mid rxs new rxs' bad failed)
  failure_tries _ (in_events sends receipts mid late sent polled) = (sends_tried pushes refuses old txs (length txs) sends mid txs' sent, polls_tried pops empties mid rxs (length rxs) receipts late rxs' polled)
