-- Sends, receipts and events keep a runner and its ends standing.
use Rattle.std.proofs.Common.{◌≡◌, ℕ, ◌+◌, ◌<◌, ◌≤◌, ◌⊎◌, inl, inr, Bool, true, false, Ok, Err, List, [], ◌∷◌, ◌++◌, length, Some, refl, sym, ap, ◌∙◌, subst, arith}
use Rattle.std.specs.Prelude.{slice_get, slice_set}
use Rattle.std.proofs.lemmas.Option.{slice_get_within}
use Rattle.std.proofs.lemmas.List.{length-set}
use Rattle.cs_base.specs.Plan.{partner}
use Rattle.cs_base.specs.declared.port_kind.PortKind.{PortKind}
use Rattle.sb_message.specs.Stream.{IsStream}
use Rattle.sb_message.specs.declared.message.Msg.{Msg}
use Rattle.device_api.specs.Behaviour.{Behaviour, IsLawful}
use Rattle.device_api.specs.Position.{Position}
use Rattle.run_laws.specs.NextEvent.{with_port}
use Rattle.run_laws.proofs.Lists.{there_below}
use Rattle.sync_rule.specs.declared.run_bad.RunBad.{RunBad}
use Rattle.sync_rule.specs.declared.runner.Runner.{Runner}
use Rattle.sync_rule.specs.ManyPorts.{outbox_in}
use Rattle.sync_rule.specs.Steps.{Passes, Keeps, Receives, Processed, MaySendNext, SendsBy, PollsBy}
use Rattle.sync_rule.specs.Events.{EventsRan, IsReadyThroughout}
use Rattle.sync_rule.specs.Events.EventsRan.{none_ran, one_more}
use Rattle.sync_rule.proofs.Ran.{throughout}
use Rattle.sync_laws.specs.Stands.{Stands, place_of}
use Rattle.sync_laws.proofs.Ahead.{is_ready}
use Rattle.sync_laws.proofs.Events.{event_stands}
use Rattle.sync_laws.proofs.Passed.{next_streams, send_stands, receipt_stands}
use Rattle.sync_laws.proofs.Changed.{port_same, port_other}
use Rattle.sync_drive.specs.Standing.{SentOn, HeardOn, SendsStand, PollsStand}
use Rattle.sync_drive.specs.Tries.{SendsRan, PollsRan, PollsFailed}
use Rattle.sync_drive.specs.Tries.SendsRan.{no_sends, one_sent, one_kept}
use Rattle.sync_drive.specs.Tries.PollsRan.{no_polls, one_heard, one_empty}
use Rattle.sync_drive.proofs.Ends.{ends_set, out_there, kind_out, kind_in, many_in, many_out}

-- SENDS

module _ {V T : Type 0} (b : Behaviour V) (settled : V → ℕ → Type 0) (lawful : IsLawful b settled) (kind : T → PortKind) (stands : T → List Msg → Type 0) (start : V) (position : Position) (received : ℕ → List Msg) where
  module _ (r : Runner V) (txs : List T) (now : SentOn b settled kind stands start position received r txs) (k : ℕ) (tx : T) (there : slice_get txs k ≡ Some tx) where
    next_fits : (m : Msg) (more : List Msg) → outbox_in r.outgoing k ≡ m ∷ more → IsStream (kind tx) (now.sent k ++ m ∷ [])
    next_fits m more first = (let o = out_there r.outgoing k m more first in subst (λ port. IsStream port (now.sent k ++ m ∷ [])) (sym (now.ends.kinds k tx o.0.plan.kind there (kind_out b settled lawful start position received now.sent r now.runner k o.0 o.1))) (next_streams b settled lawful start position received now.sent r now.runner k o.0 m more o.1 first))

    pub may_send : MaySendNext r k (kind tx) (stands tx)
    may_send m more first = record { sent = now.sent k; is_sent = now.ends.each k tx there; streams = next_fits m more first }

    pub is_out : k < length r.outgoing
    is_out = subst (λ n. k < n) (now.ends.as_many ∙ sym (many_out b settled lawful start position received now.sent r now.runner)) (slice_get_within txs k tx there)

    pub few_out : k < 32
    few_out = let here : k < length r.outgoing = is_out in let many : length r.outgoing ≡ length (b.ports start) = many_out b settled lawful start position received now.sent r now.runner in let as_in : length r.incoming ≡ length (b.ports start) = many_in b settled lawful start position received now.sent r now.runner in let few : length r.incoming ≤ 32 = now.runner.fitted.few in omega arith

  module _ (pushes : T → Msg → T → Type 0) (refuses : T → T → Type 0) (push_adds : (a c : T) (m : Msg) (sent : List Msg) → pushes a m c → stands a sent → IsStream (kind a) (sent ++ m ∷ []) → stands c (sent ++ m ∷ [])) (push_kind : (a c : T) (m : Msg) → pushes a m c → kind c ≡ kind a) (refusal_keeps : (a c : T) (sent : List Msg) → refuses a c → stands a sent → stands c sent) (refusal_kind : (a c : T) → refuses a c → kind c ≡ kind a) where
    sent_one : (k : ℕ) (mid new : Runner V) (txs : List T) (before after : T) → SentOn b settled kind stands start position received mid txs → slice_get txs k ≡ Some before → Passes (λ m. pushes before m after) mid new k → SentOn b settled kind stands start position received new (slice_set txs k after)
    sent_one k mid new txs before after now there passes = record {
      sent = with_port k (now.sent k ++ passes.m ∷ []) now.sent;
      runner = send_stands b settled lawful start position received now.sent mid now.runner (λ m. pushes before m after) new k passes;
      ends = ends_set partner kind stands (b.ports start) now.sent (with_port k (now.sent k ++ passes.m ∷ []) now.sent) txs k before after now.ends there (push_kind before after passes.m passes.pushed) (subst (stands after) (sym (port_same k (now.sent k ++ passes.m ∷ []) now.sent)) (push_adds before after passes.m (now.sent k) passes.pushed (now.ends.each k before there) (next_fits mid txs now k before there passes.m passes.more passes.waited))) (λ p differ. port_other k p (now.sent k ++ passes.m ∷ []) now.sent differ);
    }

    kept_one : (k : ℕ) (mid new : Runner V) (txs : List T) (before after : T) → SentOn b settled kind stands start position received mid txs → slice_get txs k ≡ Some before → Keeps (refuses before after) (after ≡ before) mid new k → SentOn b settled kind stands start position received new (slice_set txs k after)
    kept_one k mid new txs before after now there keeps = subst (λ x. SentOn b settled kind stands start position received x (slice_set txs k after)) (sym keeps.unchanged) (record {
      sent = now.sent;
      runner = now.runner;
      ends = ends_set partner kind stands (b.ports start) now.sent now.sent txs k before after now.ends there (same_kind keeps.cause) (still keeps.cause) (λ p differ. refl);
    })
      where
        same_kind : (((outbox_in mid.outgoing k ≡ []) × (after ≡ before)) ⊎ refuses before after) → kind after ≡ kind before
        same_kind (inl none) = ap kind none.1
        same_kind (inr full) = refusal_kind before after full

        still : (((outbox_in mid.outgoing k ≡ []) × (after ≡ before)) ⊎ refuses before after) → stands after (now.sent k)
        still (inl none) = subst (λ x. stands x (now.sent k)) (sym none.1) (now.ends.each k before there)
        still (inr full) = refusal_keeps before after (now.sent k) full (now.ends.each k before there)

    pub sends_stand : (r : Runner V) (txs : List T) → SentOn b settled kind stands start position received r txs → (k n : ℕ) (s : Runner V) (ts : List T) → SendsRan pushes refuses r txs k n s ts → SentOn b settled kind stands start position received s ts
    sends_stand r txs now _ _ _ _ no_sends = now
    sends_stand r txs now _ _ _ _ (one_sent k n mid new ts before after so_far there passes) = sent_one k mid new ts before after (sends_stand r txs now k n mid ts so_far) there passes
    sends_stand r txs now _ _ _ _ (one_kept k n mid new ts before after so_far there keeps) = kept_one k mid new ts before after (sends_stand r txs now k n mid ts so_far) there keeps

pub sends_on : {V T : Type 0} (b : Behaviour V) (settled : V → ℕ → Type 0) (lawful : IsLawful b settled) (kind : T → PortKind) (stands : T → List Msg → Type 0) (pushes : T → Msg → T → Type 0) (refuses : T → T → Type 0) (push_adds : (a c : T) (m : Msg) (sent : List Msg) → pushes a m c → stands a sent → IsStream (kind a) (sent ++ m ∷ []) → stands c (sent ++ m ∷ [])) (push_kind : (a c : T) (m : Msg) → pushes a m c → kind c ≡ kind a) (refusal_keeps : (a c : T) (sent : List Msg) → refuses a c → stands a sent → stands c sent) (refusal_kind : (a c : T) → refuses a c → kind c ≡ kind a) (r : Runner V) (txs : List T) → SendsStand b settled kind stands r txs → (k n : ℕ) (s : Runner V) (ts : List T) → SendsRan pushes refuses r txs k n s ts → SendsStand b settled kind stands s ts
sends_on b settled lawful kind stands pushes refuses push_adds push_kind refusal_keeps refusal_kind r txs stood k n s ts ran = record { start = stood.start; position = stood.position; received = stood.received; now = sends_stand b settled lawful kind stands stood.start stood.position stood.received pushes refuses push_adds push_kind refusal_keeps refusal_kind r txs stood.now k n s ts ran }

module _ {V T : Type 0} (pushes : T → Msg → T → Type 0) (refuses : T → T → Type 0) (r : Runner V) (txs : List T) (k n n' : ℕ) (mid new : Runner V) (ts : List T) (before after : T) (so_far : SendsRan pushes refuses r txs k n mid ts) (there : slice_get ts k ≡ Some before) (sent : Bool) where
  pub send_took : sent ≡ true → SendsBy pushes refuses before after mid new k sent → n' ≡ n + 1 → SendsRan pushes refuses r txs (k + 1) n' new (slice_set ts k after)
  send_took is sends n_is = subst (λ x. SendsRan pushes refuses r txs (k + 1) x new (slice_set ts k after)) (sym n_is) (one_sent k n mid new ts before after so_far there (subst (SendsBy pushes refuses before after mid new k) is sends))

  pub send_kept : sent ≡ false → SendsBy pushes refuses before after mid new k sent → n' ≡ n → SendsRan pushes refuses r txs (k + 1) n' new (slice_set ts k after)
  send_kept is sends n_is = subst (λ x. SendsRan pushes refuses r txs (k + 1) x new (slice_set ts k after)) (sym n_is) (one_kept k n mid new ts before after so_far there (subst (SendsBy pushes refuses before after mid new k) is sends))

pub sends_length : {V T : Type 0} (pushes : T → Msg → T → Type 0) (refuses : T → T → Type 0) (r : Runner V) (txs : List T) (k n : ℕ) (s : Runner V) (ts : List T) → SendsRan pushes refuses r txs k n s ts → length ts ≡ length txs
sends_length pushes refuses r txs _ _ _ _ no_sends = refl
sends_length pushes refuses r txs _ _ _ _ (one_sent k n mid new ts before after so_far there passes) = length-set ts k after ∙ sends_length pushes refuses r txs k n mid ts so_far
sends_length pushes refuses r txs _ _ _ _ (one_kept k n mid new ts before after so_far there keeps) = length-set ts k after ∙ sends_length pushes refuses r txs k n mid ts so_far

-- RECEIPTS

module _ {V R : Type 0} (b : Behaviour V) (settled : V → ℕ → Type 0) (lawful : IsLawful b settled) (kind : R → PortKind) (stands : R → List Msg → Type 0) (start : V) (position : Position) (sent : ℕ → List Msg) where
  module _ (r : Runner V) (rxs : List R) (now : HeardOn b settled kind stands start position sent r rxs) (k : ℕ) (rx : R) (there : slice_get rxs k ≡ Some rx) where
    pub is_in : k < length r.incoming
    is_in = subst (λ n. k < n) (now.ends.as_many ∙ sym (many_in b settled lawful start position now.received sent r now.runner)) (slice_get_within rxs k rx there)

    pub few_in : k < 32
    few_in = let here : k < length r.incoming = is_in in let few : length r.incoming ≤ 32 = now.runner.fitted.few in omega arith

  module _ (pops : R → Msg → R → Type 0) (empties : R → R → Type 0) (pop_adds : (a c : R) (m : Msg) (received : List Msg) → pops a m c → stands a received → stands c (received ++ m ∷ [])) (pop_streams : (a c : R) (m : Msg) (received : List Msg) → pops a m c → stands a received → IsStream (kind a) (received ++ m ∷ [])) (pop_kind : (a c : R) (m : Msg) → pops a m c → kind c ≡ kind a) (empty_keeps : (a c : R) (received : List Msg) → empties a c → stands a received → stands c received) (empty_kind : (a c : R) → empties a c → kind c ≡ kind a) where
    heard_one : (k : ℕ) (mid new : Runner V) (rxs : List R) (before after : R) → HeardOn b settled kind stands start position sent mid rxs → slice_get rxs k ≡ Some before → Receives (λ m. pops before m after) mid new k → HeardOn b settled kind stands start position sent new (slice_set rxs k after)
    heard_one k mid new rxs before after now there receipt = record {
      received = with_port k (now.received k ++ receipt.m ∷ []) now.received;
      runner = (let i = there_below mid.incoming k (is_in mid rxs now k before there) in receipt_stands b settled lawful start position now.received sent mid now.runner (λ m. pops before m after) new k i.0 receipt i.1 (subst (λ port. IsStream port (now.received k ++ receipt.m ∷ [])) (now.ends.kinds k before i.0.plan.kind there (kind_in b settled lawful start position now.received sent mid now.runner k i.0 i.1)) (pop_streams before after receipt.m (now.received k) receipt.popped (now.ends.each k before there))));
      ends = ends_set (λ port. port) kind stands (b.ports start) now.received (with_port k (now.received k ++ receipt.m ∷ []) now.received) rxs k before after now.ends there (pop_kind before after receipt.m receipt.popped) (subst (stands after) (sym (port_same k (now.received k ++ receipt.m ∷ []) now.received)) (pop_adds before after receipt.m (now.received k) receipt.popped (now.ends.each k before there))) (λ p differ. port_other k p (now.received k ++ receipt.m ∷ []) now.received differ);
    }

    empty_one : (k : ℕ) (mid new : Runner V) (rxs : List R) (before after : R) → HeardOn b settled kind stands start position sent mid rxs → slice_get rxs k ≡ Some before → empties before after → new ≡ mid → HeardOn b settled kind stands start position sent new (slice_set rxs k after)
    empty_one k mid new rxs before after now there none same = subst (λ x. HeardOn b settled kind stands start position sent x (slice_set rxs k after)) (sym same) (record {
      received = now.received;
      runner = now.runner;
      ends = ends_set (λ port. port) kind stands (b.ports start) now.received now.received rxs k before after now.ends there (empty_kind before after none) (empty_keeps before after (now.received k) none (now.ends.each k before there)) (λ p differ. refl);
    })

    pub polls_stand : (r : Runner V) (rxs : List R) → HeardOn b settled kind stands start position sent r rxs → (k n : ℕ) (s : Runner V) (xs : List R) → PollsRan pops empties r rxs k n s xs → HeardOn b settled kind stands start position sent s xs
    polls_stand r rxs now _ _ _ _ no_polls = now
    polls_stand r rxs now _ _ _ _ (one_heard k n mid new xs before after so_far there receipt) = heard_one k mid new xs before after (polls_stand r rxs now k n mid xs so_far) there receipt
    polls_stand r rxs now _ _ _ _ (one_empty k n mid new xs before after so_far there none same) = empty_one k mid new xs before after (polls_stand r rxs now k n mid xs so_far) there none same

pub polls_on : {V R : Type 0} (b : Behaviour V) (settled : V → ℕ → Type 0) (lawful : IsLawful b settled) (kind : R → PortKind) (stands : R → List Msg → Type 0) (pops : R → Msg → R → Type 0) (empties : R → R → Type 0) (pop_adds : (a c : R) (m : Msg) (received : List Msg) → pops a m c → stands a received → stands c (received ++ m ∷ [])) (pop_streams : (a c : R) (m : Msg) (received : List Msg) → pops a m c → stands a received → IsStream (kind a) (received ++ m ∷ [])) (pop_kind : (a c : R) (m : Msg) → pops a m c → kind c ≡ kind a) (empty_keeps : (a c : R) (received : List Msg) → empties a c → stands a received → stands c received) (empty_kind : (a c : R) → empties a c → kind c ≡ kind a) (r : Runner V) (rxs : List R) → PollsStand b settled kind stands r rxs → (k n : ℕ) (s : Runner V) (xs : List R) → PollsRan pops empties r rxs k n s xs → PollsStand b settled kind stands s xs
polls_on b settled lawful kind stands pops empties pop_adds pop_streams pop_kind empty_keeps empty_kind r rxs stood k n s xs ran = record { start = stood.start; position = stood.position; sent = stood.sent; now = polls_stand b settled lawful kind stands stood.start stood.position stood.sent pops empties pop_adds pop_streams pop_kind empty_keeps empty_kind r rxs stood.now k n s xs ran }

module _ {V R : Type 0} (pops : R → Msg → R → Type 0) (empties : R → R → Type 0) (r : Runner V) (rxs : List R) (k n n' : ℕ) (mid new : Runner V) (xs : List R) (before after : R) (so_far : PollsRan pops empties r rxs k n mid xs) (there : slice_get xs k ≡ Some before) (heard : Bool) where
  pub poll_took : heard ≡ true → PollsBy pops empties before after mid new k (Ok heard) → n' ≡ n + 1 → PollsRan pops empties r rxs (k + 1) n' new (slice_set xs k after)
  poll_took is polls n_is = subst (λ x. PollsRan pops empties r rxs (k + 1) x new (slice_set xs k after)) (sym n_is) (one_heard k n mid new xs before after so_far there (subst (λ x. PollsBy pops empties before after mid new k (Ok x)) is polls))

  pub poll_none : heard ≡ false → PollsBy pops empties before after mid new k (Ok heard) → n' ≡ n → PollsRan pops empties r rxs (k + 1) n' new (slice_set xs k after)
  poll_none is polls n_is = (let none = subst (λ x. PollsBy pops empties before after mid new k (Ok x)) is polls in subst (λ x. PollsRan pops empties r rxs (k + 1) x new (slice_set xs k after)) (sym n_is) (one_empty k n mid new xs before after so_far there none.0 none.1))

pub poll_failed : {V R : Type 0} (pops : R → Msg → R → Type 0) (empties : R → R → Type 0) (r : Runner V) (rxs : List R) (k n : ℕ) (mid new : Runner V) (xs : List R) (before after : R) (bad : RunBad) → PollsRan pops empties r rxs k n mid xs → slice_get xs k ≡ Some before → PollsBy pops empties before after mid new k (Err bad) → PollsFailed pops empties r rxs new (slice_set xs k after) bad
poll_failed pops empties r rxs k n mid new xs before after bad so_far there failed = record { port = k; receipts = n; mid = mid; ends = xs; so_far = so_far; before = before; after = after; there = there; failed = failed; left = refl }

pub polls_length : {V R : Type 0} (pops : R → Msg → R → Type 0) (empties : R → R → Type 0) (r : Runner V) (rxs : List R) (k n : ℕ) (s : Runner V) (xs : List R) → PollsRan pops empties r rxs k n s xs → length xs ≡ length rxs
polls_length pops empties r rxs _ _ _ _ no_polls = refl
polls_length pops empties r rxs _ _ _ _ (one_heard k n mid new xs before after so_far there receipt) = length-set xs k after ∙ polls_length pops empties r rxs k n mid xs so_far
polls_length pops empties r rxs _ _ _ _ (one_empty k n mid new xs before after so_far there none same) = length-set xs k after ∙ polls_length pops empties r rxs k n mid xs so_far

-- EVENTS

-- a runner stands, whatever its position
pub record SomewhereOn {V : Type 0} (b : Behaviour V) (settled : V → ℕ → Type 0) (start : V) (received sent : ℕ → List Msg) (r : Runner V) : Type 0 where
  pub position : Position
  pub runner : Stands b settled start position received sent r

module _ {V : Type 0} (b : Behaviour V) (settled : V → ℕ → Type 0) (lawful : IsLawful b settled) (start : V) (received sent : ℕ → List Msg) where
  one_event : (old new : Runner V) → SomewhereOn b settled start received sent old → Processed b old new → SomewhereOn b settled start received sent new
  one_event old new now event = record { position = Some (place_of received old event.next); runner = event_stands b settled lawful start now.position received sent old now.runner new event.next event.enabled event.after }

  pub ready_on : (r : Runner V) → SomewhereOn b settled start received sent r → IsReadyThroughout b settled r
  ready_on r now = throughout b settled (SomewhereOn b settled start received sent) (λ x at. is_ready b settled lawful start at.position received sent x at.runner) one_event r now

  pub events_stand : (r : Runner V) → SomewhereOn b settled start received sent r → (n : ℕ) (s : Runner V) → EventsRan b r n s → SomewhereOn b settled start received sent s
  events_stand r now _ _ none_ran = now
  events_stand r now _ _ (one_more n mid new so_far event) = one_event mid new (events_stand r now n mid so_far) event
