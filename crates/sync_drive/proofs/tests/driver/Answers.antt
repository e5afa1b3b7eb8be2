use Rattle.std.proofs.Common.{◌≡◌, ℕ, zero, suc, ◌≤◌, ◌^◌, List, [], ◌∷◌, Some, None, refl, sym, ap, ◌∙◌, subst, arith, rules}
use Rattle.std.specs.Prelude.{slice_get, All}
use Rattle.std.proofs.lemmas.Option.{none-some, same_Some}
use Rattle.std.proofs.lemmas.Grind.{common_steps}
use Rattle.cs_base.specs.Plan.{partner}
use Rattle.cs_base.specs.declared.port_kind.PortKind.{PortKind}
use Rattle.sb_message.specs.declared.message.Msg.{Msg}
use Rattle.device_api.specs.Behaviour.{Behaviour, IsLawful}
use Rattle.sync_rule.specs.declared.port_plan.PortPlan.{PortPlan}
use Rattle.sync_rule.specs.declared.runner.Runner.{Runner}
use Rattle.sync_rule.specs.Ports.{IsPlanned}
use Rattle.sync_rule.specs.Steps.{started}
use Rattle.sync_laws.proofs.Started.{new_stands}
use Rattle.sync_drive.specs.Standing.{EndsStand, IsFit}
use Rattle.sync_drive.proofs.tests.driver.Goals as goal

one_end : {E : Type 0} (receiver : PortKind → PortKind) (kind : E → PortKind) (stands : E → List Msg → Type 0) (port : PortKind) (e : E) → kind e ≡ receiver port → stands e [] → EndsStand receiver kind stands (port ∷ []) (λ p. []) (e ∷ [])
one_end {E} receiver kind stands port e same stood = record { as_many = refl; kinds = kinds; each = each }
  where
    kinds : (p : ℕ) (one : E) (q : PortKind) → slice_get (e ∷ []) p ≡ Some one → slice_get (port ∷ []) p ≡ Some q → kind one ≡ receiver q
    kinds zero one q is has = ap kind (sym (same_Some e one is)) ∙ same ∙ ap receiver (same_Some port q has)
    kinds (suc p) one q is has = absurd (none-some one is)

    each : (p : ℕ) (one : E) → slice_get (e ∷ []) p ≡ Some one → stands one []
    each zero one is = subst (λ x. stands x []) (same_Some e one is) stood
    each (suc p) one is = absurd (none-some one is)

planned_one : (plan : PortPlan) → IsPlanned plan → All IsPlanned (plan ∷ [])
planned_one plan planned = search rules

fit_new : {V T R : Type 0} (b : Behaviour V) (settled : V → ℕ → Type 0) (lawful : IsLawful b settled) (tx_kind : T → PortKind) (tx_stands : T → List Msg → Type 0) (rx_kind : R → PortKind) (rx_stands : R → List Msg → Type 0) (device : V) (plan : PortPlan) (end : ℕ) (tx : T) (rx : R) → end ≤ 10 ^ 15 → settled device 0 → b.ports device ≡ plan.kind ∷ [] → IsPlanned plan → (tx_kind tx ≡ partner plan.kind) × tx_stands tx [] → (rx_kind rx ≡ plan.kind) × rx_stands rx [] → (r : Runner V) (plans : List PortPlan) (txs : List T) (rxs : List R) → r ≡ started device plans end → plans ≡ plan ∷ [] → txs ≡ tx ∷ [] → rxs ≡ rx ∷ [] → IsFit b settled tx_kind tx_stands rx_kind rx_stands r txs rxs
fit_new {V} b settled lawful tx_kind tx_stands rx_kind rx_stands device plan end tx rx short at_start ports planned out into r plans txs rxs r_is plans_is txs_is rxs_is = subst (λ x. IsFit b settled tx_kind tx_stands rx_kind rx_stands x txs rxs) (sym (r_is ∙ ap (λ l. started device l end) plans_is)) (record {
  start = device;
  stands = record {
    position = None;
    received = λ p. [];
    sent = λ p. [];
    runner = new_stands b settled lawful device end (plan ∷ []) at_start short (sym ports) (planned_one plan planned);
    out = subst (EndsStand partner tx_kind tx_stands (b.ports device) (λ p. [])) (sym txs_is) (subst (λ l. EndsStand partner tx_kind tx_stands l (λ p. []) (tx ∷ [])) (sym ports) (one_end partner tx_kind tx_stands plan.kind tx out.0 out.1));
    into = subst (EndsStand (λ port. port) rx_kind rx_stands (b.ports device) (λ p. [])) (sym rxs_is) (subst (λ l. EndsStand (λ port. port) rx_kind rx_stands l (λ p. []) (rx ∷ [])) (sym ports) (one_end (λ port. port) rx_kind rx_stands plan.kind rx into.0 into.1));
  };
})

pub returns : goal.returns
returns g c = fit_new g.V.Device.behaviour g.V.Device.settled g.met.V.Device.lawful g.T.TxPort.kind g.T.TxPort.stands g.R.RxPort.kind g.R.RxPort.stands c.args.device c.args.plan 2600 c.args.tx c.args.rx (omega arith) c.requires.at_start c.requires.one_port c.requires.planned c.requires.tx c.requires.rx c.new-2.result.runner c.push.new.self.items c.new-2.result.txs.items c.new-2.result.rxs.items (first_of (cc (c.new-2.ensures.runner, c.in_ok-runner.ensures), grind (arith, common_steps, c.new-2.ensures.runner, c.in_ok-runner.ensures))) (first_of (cc (c.in_ok-push.ensures.items, c.new-plans.ensures.items), grind (arith, common_steps, c.in_ok-push.ensures.items, c.new-plans.ensures.items))) (first_of (cc (c.new-2.ensures.txs, c.in_ok-push-2.ensures.items, c.new-txs.ensures.items), grind (arith, common_steps, c.new-2.ensures.txs, c.in_ok-push-2.ensures.items, c.new-txs.ensures.items))) (first_of (cc (c.new-2.ensures.rxs, c.in_ok-push-3.ensures.items, c.new-rxs.ensures.items), grind (arith, common_steps, c.new-2.ensures.rxs, c.in_ok-push-3.ensures.items, c.new-rxs.ensures.items)))
