-- The runner of a device that ticks alone is ready from its start, and after each event.
use Rattle.std.proofs.Common.{◌≡◌, ◌∙◌, ℕ, ◌≤◌, ◌^◌, Bool, true, List, [], map, None, Ok, Err, sym, ap, subst}
use Rattle.std.specs.Prelude.{All, IfOk, Result}
use Rattle.std.proofs.lemmas.List.Elements.{All-nil}
use Rattle.sb_message.specs.declared.message.Msg.{Msg}
use Rattle.device_api.specs.Position.{Position}
use Rattle.sync_rule.specs.declared.port_plan.PortPlan.{PortPlan}
use Rattle.sync_rule.specs.declared.runner.Runner.{Runner}
use Rattle.sync_rule.specs.Ports.{IsPlanned}
use Rattle.sync_rule.specs.Steps.{started, Processes}
use Rattle.sync_rule.specs.Events.{IsReadyThroughout}
use Rattle.sync_rule.specs.Events.EventsRan.{none_ran, one_more}
use Rattle.sync_rule.proofs.Ran.{throughout_on}
use Rattle.sync_laws.specs.Stands.{Stands}
use Rattle.runner_bench.specs.declared.ticker.Ticker.{Ticker}
use Rattle.runner_bench.specs.Ticker.{ticker, IsSettledTicker}

pub after_event : {old new : Runner Ticker} {went : Bool} → IsReadyThroughout ticker IsSettledTicker old → Processes ticker old new went → went ≡ true → IsReadyThroughout ticker IsSettledTicker new
after_event {old} {new} {went} ready event is = throughout_on ticker IsSettledTicker ready (one_more 0 old new none_ran (subst (Processes ticker old new) is event))

module _
    (starts : (device : Ticker) (plans : List PortPlan) (end : ℕ) → IsSettledTicker device 0 → end ≤ 10 ^ 15 → map (λ (plan : PortPlan). plan.kind) plans ≡ ticker.ports device → All IsPlanned plans → Stands ticker IsSettledTicker device None (λ port. []) (λ port. []) (started device plans end))
    (ready : (start : Ticker) (position : Position) (received sent : ℕ → List Msg) (r : Runner Ticker) → Stands ticker IsSettledTicker start position received sent r → IsReadyThroughout ticker IsSettledTicker r) where
  ready_start : (device : Ticker) (plans : List PortPlan) (end : ℕ) → device ≡ record { port = None; next = 0 } → plans ≡ [] → end ≤ 10 ^ 15 → IsReadyThroughout ticker IsSettledTicker (started device plans end)
  ready_start device plans end alone none short = ready device None (λ port. []) (λ port. []) (started device plans end) (starts device plans end tt short (ap (map (λ (plan : PortPlan). plan.kind)) none ∙ sym (ap ticker.ports alone)) (subst (All IsPlanned) (sym none) (All-nil IsPlanned)))

  pub starts_ready : {E : Type 0} (result : Result (Runner Ticker) E) (device : Ticker) (plans : List PortPlan) (end : ℕ) → device ≡ record { port = None; next = 0 } → plans ≡ [] → end ≤ 10 ^ 15 → IfOk result (λ runner. runner ≡ started device plans end) → IfOk result (IsReadyThroughout ticker IsSettledTicker)
  starts_ready (Ok runner) device plans end alone none short is = subst (IsReadyThroughout ticker IsSettledTicker) (sym is) (ready_start device plans end alone none short)
  starts_ready (Err e) device plans end alone none short told = told
