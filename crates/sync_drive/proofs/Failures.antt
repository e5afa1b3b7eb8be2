-- What a turn that failed leaves standing.
use Rattle.std.proofs.Common.{◌≡◌, ℕ, false, List, [], ◌∷◌, ◌++◌, length, Some, refl, sym, ap, ◌∙◌, subst}
use Rattle.std.specs.declared.result.Result.TheVariants.{Err}
use Rattle.std.specs.Prelude.{slice_get, slice_set}
use Rattle.std.proofs.lemmas.Bool.{false≢true}
use Rattle.cs_base.specs.declared.port_kind.PortKind.{PortKind}
use Rattle.sb_message.specs.Stream.{IsStream}
use Rattle.sb_message.specs.declared.message.Msg.{Msg}
use Rattle.device_api.specs.Behaviour.{Behaviour, IsLawful}
use Rattle.device_api.specs.Position.{Position}
use Rattle.run_laws.specs.NextEvent.{with_port}
use Rattle.run_laws.proofs.Lists.{there_below}
use Rattle.sync_rule.specs.declared.run_bad.RunBad.{RunBad}
use Rattle.sync_rule.specs.declared.run_bad.RunBad.TheVariants.{WrongIntro, NoMemory}
use Rattle.sync_rule.specs.declared.runner.Runner.{Runner}
use Rattle.sync_rule.specs.Ports.{In}
use Rattle.sync_rule.specs.Steps.{PollsBy, introduced_at}
use Rattle.sync_laws.specs.Stands.{has_begun}
use Rattle.sync_laws.proofs.Changed.{port_same, port_other}
use Rattle.sync_drive.specs.Standing.{SentOn, HeardOn, RxsStand, StandsFrom, IntoFailed, FailedFrom}
use Rattle.sync_drive.specs.Standing.IntoFailed.{as_received, wrongly_introduced}
use Rattle.sync_drive.specs.Tries.{SendsRan, PollsRan}
use Rattle.sync_drive.specs.Turns.{Failed}
use Rattle.sync_drive.specs.Turns.Failed.{in_polls, in_events}
use Rattle.sync_laws.proofs.Steps.{KeepsPlans}
use Rattle.sync_drive.proofs.Ends.{ends_set}
use Rattle.sync_drive.proofs.Kept.{is_in, sends_stand, polls_stand}
use Rattle.sync_drive.proofs.Plans.{keeps_then, introduction_kept, sends_keep, polls_keep}

not_begun : (received : List Msg) → has_begun received ≡ false → received ≡ []
not_begun [] e = refl
not_begun (m ∷ more) e = absurd (false≢true (sym e))

module _ {V R : Type 0} (b : Behaviour V) (settled : V → ℕ → Type 0) (lawful : IsLawful b settled) (kind : R → PortKind) (stands : R → List Msg → Type 0) (start : V) (position : Position) (sent : ℕ → List Msg) (pops : R → Msg → R → Type 0) (empties : R → R → Type 0) (pop_adds : (a c : R) (m : Msg) (received : List Msg) → pops a m c → stands a received → stands c (received ++ m ∷ [])) (pop_kind : (a c : R) (m : Msg) → pops a m c → kind c ≡ kind a) (mid new : Runner V) (ends : List R) (now : HeardOn b settled kind stands start position sent mid ends) (port : ℕ) (before after : R) (there : slice_get ends port ≡ Some before) where
  -- a port whose introduction has not come has received nothing
  none_yet : introduced_at (slice_get mid.incoming port) ≡ false → now.received port ≡ []
  none_yet first = let i : (x : In) × (slice_get mid.incoming port ≡ Some x) = there_below mid.incoming port (is_in b settled lawful kind stands start position sent mid ends now port before there) in not_begun (now.received port) (sym (now.runner.heard port i.0 i.1).introduced ∙ sym (ap introduced_at i.1) ∙ first)

  wrong_into : (found : Msg) → pops before found after → now.received port ≡ [] → RxsStand kind stands (b.ports start) (with_port port (found ∷ []) now.received) (slice_set ends port after)
  wrong_into found popped none = ends_set (λ port. port) kind stands (b.ports start) now.received (with_port port (found ∷ []) now.received) ends port before after now.ends there (pop_kind before after found popped) (subst (stands after) (ap (λ l. l ++ found ∷ []) none ∙ sym (port_same port (found ∷ []) now.received)) (pop_adds before after found (now.received port) popped (now.ends.each port before there))) (λ p differ. port_other port p (found ∷ []) now.received differ)

  pub into_failed : (bad : RunBad) → PollsBy pops empties before after mid new port (Err bad) → IntoFailed kind stands (b.ports start) mid now.received (slice_set ends port after) bad
  into_failed NoMemory same = as_received (ends_set (λ port. port) kind stands (b.ports start) now.received now.received ends port before after now.ends there (ap kind same) (subst (λ x. stands x (now.received port)) (sym same) (now.ends.each port before there)) (λ p differ. refl))
  into_failed (WrongIntro at found) wrong = let none : now.received port ≡ [] = none_yet wrong.first in subst (λ q. IntoFailed kind stands (b.ports start) mid now.received (slice_set ends port after) (WrongIntro q found)) (sym wrong.polled) (wrongly_introduced port found none wrong.wrong (wrong_into found wrong.popped none))

-- the same by the runner as it was before, of whose ports the plans have stayed
into_by : {V R : Type 0} (kind : R → PortKind) (stands : R → List Msg → Type 0) (ports : List PortKind) (old last : Runner V) (received : ℕ → List Msg) (rxs : List R) (bad : RunBad) → KeepsPlans old last → IntoFailed kind stands ports last received rxs bad → IntoFailed kind stands ports old received rxs bad
into_by kind stands ports old last received rxs _ keeps (as_received ends) = as_received ends
into_by kind stands ports old last received rxs _ keeps (wrongly_introduced port found none wrong ends) = wrongly_introduced port found none (λ is. wrong (introduction_kept old last keeps port found is)) ends

module _ {V T R : Type 0} (b : Behaviour V) (settled : V → ℕ → Type 0) (lawful : IsLawful b settled) (tx_kind : T → PortKind) (tx_stands : T → List Msg → Type 0) (rx_kind : R → PortKind) (rx_stands : R → List Msg → Type 0) (pops : R → Msg → R → Type 0) (empties : R → R → Type 0) (pop_adds : (a c : R) (m : Msg) (received : List Msg) → pops a m c → rx_stands a received → rx_stands c (received ++ m ∷ [])) (pop_streams : (a c : R) (m : Msg) (received : List Msg) → pops a m c → rx_stands a received → IsStream (rx_kind a) (received ++ m ∷ [])) (pop_kind : (a c : R) (m : Msg) → pops a m c → rx_kind c ≡ rx_kind a) (empty_keeps : (a c : R) (received : List Msg) → empties a c → rx_stands a received → rx_stands c received) (empty_kind : (a c : R) → empties a c → rx_kind c ≡ rx_kind a) (pushes : T → Msg → T → Type 0) (refuses : T → T → Type 0) (push_adds : (a c : T) (m : Msg) (sent : List Msg) → pushes a m c → tx_stands a sent → IsStream (tx_kind a) (sent ++ m ∷ []) → tx_stands c (sent ++ m ∷ [])) (push_kind : (a c : T) (m : Msg) → pushes a m c → tx_kind c ≡ tx_kind a) (refusal_keeps : (a c : T) (sent : List Msg) → refuses a c → tx_stands a sent → tx_stands c sent) (refusal_kind : (a c : T) → refuses a c → tx_kind c ≡ tx_kind a) (start : V) (old : Runner V) (txs : List T) (rxs : List R) (stood : StandsFrom b settled tx_kind tx_stands rx_kind rx_stands start old txs rxs) where
  sent_on : (n : ℕ) (mid : Runner V) (txs' : List T) → SendsRan pushes refuses old txs (length txs) n mid txs' → SentOn b settled tx_kind tx_stands start stood.position stood.received mid txs'
  sent_on n mid txs' ran = sends_stand b settled lawful tx_kind tx_stands start stood.position stood.received pushes refuses push_adds push_kind refusal_keeps refusal_kind old txs (record { sent = stood.sent; runner = stood.runner; ends = stood.out }) (length txs) n mid txs' ran

  heard_on : (mid : Runner V) (txs' : List T) (now : SentOn b settled tx_kind tx_stands start stood.position stood.received mid txs') (k n : ℕ) (late : Runner V) (xs : List R) → PollsRan pops empties mid rxs k n late xs → HeardOn b settled rx_kind rx_stands start stood.position now.sent late xs
  heard_on mid txs' now k n late xs ran = polls_stand b settled lawful rx_kind rx_stands start stood.position now.sent pops empties pop_adds pop_streams pop_kind empty_keeps empty_kind mid rxs (record { received = stood.received; runner = now.runner; ends = stood.into }) k n late xs ran

  pub failure_stands : (new : Runner V) (txs' : List T) (rxs' : List R) (bad : RunBad) → Failed pushes refuses pops empties old txs rxs new txs' rxs' bad → FailedFrom b settled tx_kind tx_stands rx_kind rx_stands start old txs' rxs' bad
  failure_stands new txs' rxs' _ (in_polls sends mid bad sent failed) =
      let now = sent_on sends mid txs' sent in
      let heard = heard_on mid txs' now failed.port failed.receipts failed.mid failed.ends failed.so_far in
      record {
        position = stood.position;
        received = heard.received;
        sent = now.sent;
        last = failed.mid;
        runner = heard.runner;
        out = now.ends;
        into = subst (λ xs. IntoFailed rx_kind rx_stands (b.ports start) old heard.received xs bad) (sym failed.left) (into_by rx_kind rx_stands (b.ports start) old failed.mid heard.received (slice_set failed.ends failed.port failed.after) bad (keeps_then old mid failed.mid (sends_keep pushes refuses old txs (length txs) sends mid txs' sent) (polls_keep pops empties mid rxs failed.port failed.receipts failed.mid failed.ends failed.so_far)) (into_failed b settled lawful rx_kind rx_stands start stood.position now.sent pops empties pop_adds pop_kind failed.mid new failed.ends heard failed.port failed.before failed.after failed.there bad failed.failed));
      }
  failure_stands new txs' rxs' _ (in_events sends receipts mid late sent polled) =
      let now = sent_on sends mid txs' sent in
      let heard = heard_on mid txs' now (length rxs) receipts late rxs' polled in
      record {
        position = stood.position;
        received = heard.received;
        sent = now.sent;
        last = late;
        runner = heard.runner;
        out = now.ends;
        into = as_received heard.ends;
      }
