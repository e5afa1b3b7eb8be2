-- A turn changes neither the end of a runner nor the plans of its ports.
use Rattle.std.proofs.Common.{◌≡◌, ℕ, List, length, refl, sym, ◌∙◌, subst}
use Rattle.std.specs.Prelude.{slice_get, map, Some}
use Rattle.sb_message.specs.declared.message.Msg.{Msg}
use Rattle.device_api.specs.Behaviour.{Behaviour}
use Rattle.sync_rule.specs.declared.port_plan.PortPlan.{PortPlan}
use Rattle.sync_rule.specs.declared.runner.Runner.{Runner}
use Rattle.sync_rule.specs.Ports.{In, Out, passed_on, heard, introduction_to}
use Rattle.sync_rule.specs.Steps.{IsIntroduction}
use Rattle.sync_rule.specs.Events.{EventsRan}
use Rattle.sync_rule.specs.Events.EventsRan.{none_ran, one_more}
use Rattle.sync_laws.proofs.Changed.{map_changed, mapped_at, get_mapped}
use Rattle.sync_laws.proofs.Steps.{KeepsPlans, event_keeps}
use Rattle.sync_drive.specs.declared.turn.Turn.{Turn}
use Rattle.sync_drive.specs.Tries.{SendsRan, PollsRan}
use Rattle.sync_drive.specs.Tries.SendsRan.{no_sends, one_sent, one_kept}
use Rattle.sync_drive.specs.Tries.PollsRan.{no_polls, one_heard, one_empty}
use Rattle.sync_drive.specs.Turns.{Turned}

module _ {V : Type 0} where
  keeps_same : (r : Runner V) → KeepsPlans r r
  keeps_same r = record { same_end = refl; outs = refl; ins = refl }

  pub keeps_then : (a c d : Runner V) → KeepsPlans a c → KeepsPlans c d → KeepsPlans a d
  keeps_then a c d first second = record { same_end = second.same_end ∙ first.same_end; outs = second.outs ∙ first.outs; ins = second.ins ∙ first.ins }

  -- what is an introduction to a port is one by the same plans
  pub introduction_kept : (old new : Runner V) → KeepsPlans old new → (port : ℕ) (m : Msg) → IsIntroduction old port m → IsIntroduction new port m
  introduction_kept old new keeps port m is = let now : (x : In) × (slice_get new.incoming port ≡ Some x) × (x.plan ≡ is.is.plan) = mapped_at (λ (i : In). i.plan) new.incoming (map (λ (i : In). i.plan) old.incoming) port is.is.plan keeps.ins (get_mapped (λ (i : In). i.plan) old.incoming port is.is is.there) in record { is = now.0; there = now.1; introduction = subst (λ (plan : PortPlan). m ≡ introduction_to plan) (sym now.2) is.introduction }

  pub sends_keep : {T : Type 0} (pushes : T → Msg → T → Type 0) (refuses : T → T → Type 0) (r : Runner V) (txs : List T) (k n : ℕ) (s : Runner V) (ts : List T) → SendsRan pushes refuses r txs k n s ts → KeepsPlans r s
  sends_keep pushes refuses r txs _ _ _ _ no_sends = keeps_same r
  sends_keep pushes refuses r txs _ _ _ _ (one_sent k n mid new ts before after so_far there passes) = keeps_then r mid new (sends_keep pushes refuses r txs k n mid ts so_far) (subst (KeepsPlans mid) (sym passes.is) (record { same_end = refl; outs = map_changed (λ (o : Out). o.plan) k passed_on mid.outgoing (λ o. refl); ins = refl }))
  sends_keep pushes refuses r txs _ _ _ _ (one_kept k n mid new ts before after so_far there keeps) = subst (KeepsPlans r) (sym keeps.unchanged) (sends_keep pushes refuses r txs k n mid ts so_far)

  pub polls_keep : {R : Type 0} (pops : R → Msg → R → Type 0) (empties : R → R → Type 0) (r : Runner V) (rxs : List R) (k n : ℕ) (s : Runner V) (xs : List R) → PollsRan pops empties r rxs k n s xs → KeepsPlans r s
  polls_keep pops empties r rxs _ _ _ _ no_polls = keeps_same r
  polls_keep pops empties r rxs _ _ _ _ (one_heard k n mid new xs before after so_far there receipt) = keeps_then r mid new (polls_keep pops empties r rxs k n mid xs so_far) (subst (KeepsPlans mid) (sym receipt.is) (record { same_end = refl; outs = refl; ins = map_changed (λ (i : In). i.plan) k (heard receipt.m) mid.incoming (λ i. refl) }))
  polls_keep pops empties r rxs _ _ _ _ (one_empty k n mid new xs before after so_far there none same) = subst (KeepsPlans r) (sym same) (polls_keep pops empties r rxs k n mid xs so_far)

  events_keep : (b : Behaviour V) (r : Runner V) (n : ℕ) (s : Runner V) → EventsRan b r n s → KeepsPlans r s
  events_keep b r _ _ none_ran = keeps_same r
  events_keep b r _ _ (one_more n mid new so_far event) = keeps_then r mid new (events_keep b r n mid so_far) (event_keeps b mid new event.next event.after)

  pub turn_keeps : {T R : Type 0} (b : Behaviour V) (pushes : T → Msg → T → Type 0) (refuses : T → T → Type 0) (pops : R → Msg → R → Type 0) (empties : R → R → Type 0) (old new : Runner V) (txs txs' : List T) (rxs rxs' : List R) (turn : Turn) → Turned b pushes refuses pops empties old txs rxs new txs' rxs' turn → KeepsPlans old new
  turn_keeps b pushes refuses pops empties old new txs txs' rxs rxs' turn made = keeps_then old made.after_polls new (keeps_then old made.after_sends made.after_polls (sends_keep pushes refuses old txs (length txs) made.sends made.after_sends txs' made.sent) (polls_keep pops empties made.after_sends rxs (length rxs) made.receipts made.after_polls rxs' made.polled)) (events_keep b made.after_polls made.events new made.ran.ran)
