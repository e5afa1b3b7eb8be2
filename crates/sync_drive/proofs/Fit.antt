-- What a turn does keeps a driver standing.
use Rattle.std.proofs.Common.{◌≡◌, ℕ, ◌≤◌, List, [], ◌∷◌, ◌++◌, length, sym, ◌∙◌, subst}
use Rattle.std.specs.declared.result.Result.{Result}
use Rattle.std.specs.declared.result.Result.TheVariants.{Ok, Err}
use Rattle.std.specs.Prelude.{IfOk, OnOk}
use Rattle.cs_base.specs.declared.port_kind.PortKind.{PortKind}
use Rattle.sb_message.specs.Stream.{IsStream}
use Rattle.sb_message.specs.declared.message.Msg.{Msg}
use Rattle.device_api.specs.Behaviour.{Behaviour, IsLawful}
use Rattle.sync_rule.specs.declared.run_bad.RunBad.{RunBad}
use Rattle.sync_rule.specs.declared.runner.Runner.{Runner}
use Rattle.sync_rule.specs.Events.{EventsRan, IsReadyThroughout}
use Rattle.sync_drive.specs.declared.turn.Turn.{Turn}
use Rattle.sync_drive.specs.Standing.{SendsStand, PollsStand, StandsFrom, IsFit}
use Rattle.sync_drive.specs.Tries.{SendsRan, PollsRan}
use Rattle.sync_drive.specs.Turns.{Turned}
use Rattle.sync_drive.proofs.Ends.{many_in, many_out}
use Rattle.sync_drive.proofs.Kept.{sends_stand, polls_stand, events_stand, ready_on}

module _ {V T R : Type 0} (b : Behaviour V) (settled : V → ℕ → Type 0) (lawful : IsLawful b settled) (tx_kind : T → PortKind) (tx_stands : T → List Msg → Type 0) (rx_kind : R → PortKind) (rx_stands : R → List Msg → Type 0) where
  pub for_sends : (r : Runner V) (txs : List T) (rxs : List R) → IsFit b settled tx_kind tx_stands rx_kind rx_stands r txs rxs → SendsStand b settled tx_kind tx_stands r txs
  for_sends r txs rxs fit = record { start = fit.start; position = fit.stands.position; received = fit.stands.received; now = record { sent = fit.stands.sent; runner = fit.stands.runner; ends = fit.stands.out } }

  pub for_polls : (r : Runner V) (txs : List T) (rxs : List R) → IsFit b settled tx_kind tx_stands rx_kind rx_stands r txs rxs → PollsStand b settled rx_kind rx_stands r rxs
  for_polls r txs rxs fit = record { start = fit.start; position = fit.stands.position; sent = fit.stands.sent; now = record { received = fit.stands.received; runner = fit.stands.runner; ends = fit.stands.into } }

  pub for_events : (r : Runner V) (txs : List T) (rxs : List R) → IsFit b settled tx_kind tx_stands rx_kind rx_stands r txs rxs → IsReadyThroughout b settled r
  for_events r txs rxs fit = ready_on b settled lawful fit.start fit.stands.received fit.stands.sent r (record { position = fit.stands.position; runner = fit.stands.runner })

  pub few_in : (r : Runner V) (txs : List T) (rxs : List R) → IsFit b settled tx_kind tx_stands rx_kind rx_stands r txs rxs → length r.incoming ≤ 32
  few_in r txs rxs fit = fit.stands.runner.fitted.few

  pub few_out : (r : Runner V) (txs : List T) (rxs : List R) → IsFit b settled tx_kind tx_stands rx_kind rx_stands r txs rxs → length r.outgoing ≤ 32
  few_out r txs rxs fit = subst (λ n. n ≤ 32) (many_in b settled lawful fit.start fit.stands.position fit.stands.received fit.stands.sent r fit.stands.runner ∙ sym (many_out b settled lawful fit.start fit.stands.position fit.stands.received fit.stands.sent r fit.stands.runner)) fit.stands.runner.fitted.few

  from_events : (start : V) (r : Runner V) (txs : List T) (rxs : List R) → StandsFrom b settled tx_kind tx_stands rx_kind rx_stands start r txs rxs → (n : ℕ) (s : Runner V) → EventsRan b r n s → StandsFrom b settled tx_kind tx_stands rx_kind rx_stands start s txs rxs
  from_events start r txs rxs stood n s ran = (let now = events_stand b settled lawful start stood.received stood.sent r (record { position = stood.position; runner = stood.runner }) n s ran in record { position = now.position; received = stood.received; sent = stood.sent; runner = now.runner; out = stood.out; into = stood.into })

  pub fit_events : (r : Runner V) (txs : List T) (rxs : List R) → IsFit b settled tx_kind tx_stands rx_kind rx_stands r txs rxs → (n : ℕ) (s : Runner V) → EventsRan b r n s → IsFit b settled tx_kind tx_stands rx_kind rx_stands s txs rxs
  fit_events r txs rxs fit n s ran = record { start = fit.start; stands = from_events fit.start r txs rxs fit.stands n s ran }

  module _ (pushes : T → Msg → T → Type 0) (refuses : T → T → Type 0) (push_adds : (a c : T) (m : Msg) (sent : List Msg) → pushes a m c → tx_stands a sent → IsStream (tx_kind a) (sent ++ m ∷ []) → tx_stands c (sent ++ m ∷ [])) (push_kind : (a c : T) (m : Msg) → pushes a m c → tx_kind c ≡ tx_kind a) (refusal_keeps : (a c : T) (sent : List Msg) → refuses a c → tx_stands a sent → tx_stands c sent) (refusal_kind : (a c : T) → refuses a c → tx_kind c ≡ tx_kind a) where
    from_sends : (start : V) (r : Runner V) (txs : List T) (rxs : List R) → StandsFrom b settled tx_kind tx_stands rx_kind rx_stands start r txs rxs → (k n : ℕ) (s : Runner V) (ts : List T) → SendsRan pushes refuses r txs k n s ts → StandsFrom b settled tx_kind tx_stands rx_kind rx_stands start s ts rxs
    from_sends start r txs rxs stood k n s ts ran = (let now = sends_stand b settled lawful tx_kind tx_stands start stood.position stood.received pushes refuses push_adds push_kind refusal_keeps refusal_kind r txs (record { sent = stood.sent; runner = stood.runner; ends = stood.out }) k n s ts ran in record { position = stood.position; received = stood.received; sent = now.sent; runner = now.runner; out = now.ends; into = stood.into })

    pub fit_sends : (r : Runner V) (txs : List T) (rxs : List R) → IsFit b settled tx_kind tx_stands rx_kind rx_stands r txs rxs → (k n : ℕ) (s : Runner V) (ts : List T) → SendsRan pushes refuses r txs k n s ts → IsFit b settled tx_kind tx_stands rx_kind rx_stands s ts rxs
    fit_sends r txs rxs fit k n s ts ran = record { start = fit.start; stands = from_sends fit.start r txs rxs fit.stands k n s ts ran }

  module _ (pops : R → Msg → R → Type 0) (empties : R → R → Type 0) (pop_adds : (a c : R) (m : Msg) (received : List Msg) → pops a m c → rx_stands a received → rx_stands c (received ++ m ∷ [])) (pop_streams : (a c : R) (m : Msg) (received : List Msg) → pops a m c → rx_stands a received → IsStream (rx_kind a) (received ++ m ∷ [])) (pop_kind : (a c : R) (m : Msg) → pops a m c → rx_kind c ≡ rx_kind a) (empty_keeps : (a c : R) (received : List Msg) → empties a c → rx_stands a received → rx_stands c received) (empty_kind : (a c : R) → empties a c → rx_kind c ≡ rx_kind a) where
    from_polls : (start : V) (r : Runner V) (txs : List T) (rxs : List R) → StandsFrom b settled tx_kind tx_stands rx_kind rx_stands start r txs rxs → (k n : ℕ) (s : Runner V) (xs : List R) → PollsRan pops empties r rxs k n s xs → StandsFrom b settled tx_kind tx_stands rx_kind rx_stands start s txs xs
    from_polls start r txs rxs stood k n s xs ran = (let now = polls_stand b settled lawful rx_kind rx_stands start stood.position stood.sent pops empties pop_adds pop_streams pop_kind empty_keeps empty_kind r rxs (record { received = stood.received; runner = stood.runner; ends = stood.into }) k n s xs ran in record { position = stood.position; received = now.received; sent = stood.sent; runner = now.runner; out = stood.out; into = now.ends })

    pub fit_polls : (r : Runner V) (txs : List T) (rxs : List R) → IsFit b settled tx_kind tx_stands rx_kind rx_stands r txs rxs → (k n : ℕ) (s : Runner V) (xs : List R) → PollsRan pops empties r rxs k n s xs → IsFit b settled tx_kind tx_stands rx_kind rx_stands s txs xs
    fit_polls r txs rxs fit k n s xs ran = record { start = fit.start; stands = from_polls fit.start r txs rxs fit.stands k n s xs ran }

    module _ (pushes : T → Msg → T → Type 0) (refuses : T → T → Type 0) (push_adds : (a c : T) (m : Msg) (sent : List Msg) → pushes a m c → tx_stands a sent → IsStream (tx_kind a) (sent ++ m ∷ []) → tx_stands c (sent ++ m ∷ [])) (push_kind : (a c : T) (m : Msg) → pushes a m c → tx_kind c ≡ tx_kind a) (refusal_keeps : (a c : T) (sent : List Msg) → refuses a c → tx_stands a sent → tx_stands c sent) (refusal_kind : (a c : T) → refuses a c → tx_kind c ≡ tx_kind a) where
      pub turn_stands : (start : V) (old new : Runner V) (txs txs' : List T) (rxs rxs' : List R) (turn : Turn) → StandsFrom b settled tx_kind tx_stands rx_kind rx_stands start old txs rxs → Turned b pushes refuses pops empties old txs rxs new txs' rxs' turn → StandsFrom b settled tx_kind tx_stands rx_kind rx_stands start new txs' rxs'
      turn_stands start old new txs txs' rxs rxs' turn stood made = from_events start made.after_polls txs' rxs' (from_polls start made.after_sends txs' rxs (from_sends pushes refuses push_adds push_kind refusal_keeps refusal_kind start old txs rxs stood (length txs) made.sends made.after_sends txs' made.sent) (length rxs) made.receipts made.after_polls rxs' made.polled) made.events new made.ran.ran

      pub fit_if : (old new : Runner V) (txs txs' : List T) (rxs rxs' : List R) → IsFit b settled tx_kind tx_stands rx_kind rx_stands old txs rxs → (answer : Result Turn RunBad) → IfOk answer (Turned b pushes refuses pops empties old txs rxs new txs' rxs') → OnOk answer (IsFit b settled tx_kind tx_stands rx_kind rx_stands new txs' rxs')
      fit_if old new txs txs' rxs rxs' fit (Ok turn) made = record { start = fit.start; stands = turn_stands fit.start old new txs txs' rxs rxs' turn fit.stands made }
      fit_if old new txs txs' rxs rxs' fit (Err bad) none = none
