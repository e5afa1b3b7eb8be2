-- The ends of a component's channels, of which one was changed; and the ports of a runner that stands.
use Rattle.std.proofs.Common.{◌≡◌, ℕ, zero, suc, Bool, true, false, eqb, List, [], ◌∷◌, length, map, Option, Some, None, refl, sym, ap, ◌∙◌, subst, arith}
use Rattle.std.specs.Prelude.{slice_get, slice_set}
use Rattle.std.proofs.lemmas.Bool.{eqb-true, eqb-false}
use Rattle.std.proofs.lemmas.Option.{none-some, same_Some}
use Rattle.std.proofs.lemmas.List.{length-set}
use Rattle.cs_base.specs.declared.port_kind.PortKind.{PortKind}
use Rattle.sb_message.specs.declared.message.Msg.{Msg}
use Rattle.device_api.specs.Behaviour.{Behaviour, IsLawful}
use Rattle.device_api.specs.Position.{Position}
use Rattle.run_laws.proofs.Lists.{slice_get-set_same, slice_get-set_other}
use Rattle.sync_rule.specs.declared.port_plan.PortPlan.{PortPlan}
use Rattle.sync_rule.specs.declared.runner.Runner.{Runner}
use Rattle.sync_rule.specs.Ports.{In, Out}
use Rattle.sync_rule.specs.ManyPorts.{outbox_at, outbox_in}
use Rattle.sync_laws.specs.Stands.{Stands}
use Rattle.sync_laws.proofs.Ahead.{as_many, as_many_in}
use Rattle.sync_laws.proofs.Changed.{get_mapped}
use Rattle.sync_drive.specs.Standing.{EndsStand}

-- what an element of a list of which one was changed is: the changed one, or as it was
pub by_place : {X : Type 0} (P : ℕ → X → Type 0) (xs : List X) (i : ℕ) (x y : X) → slice_get xs i ≡ Some x → P i y → ((p : ℕ) (z : X) → (p ≡ i → ⊥) → slice_get xs p ≡ Some z → P p z) → (p : ℕ) (z : X) → slice_get (slice_set xs i y) p ≡ Some z → P p z
by_place P xs i x y is here others p z there = at (eqb p i) refl
  where
    at : (same : Bool) → eqb p i ≡ same → P p z
    at true e = let e_i : p ≡ i = eqb-true p i e in subst (λ q. P q z) (sym e_i) (subst (P i) (same_Some y z (sym (slice_get-set_same xs i x y is) ∙ ap (slice_get (slice_set xs i y)) (sym e_i) ∙ there)) here)
    at false e = let differ : p ≡ i → ⊥ = eqb-false p i e in others p z differ (sym (slice_get-set_other xs i p y (λ other. differ (sym other))) ∙ there)

pub ends_set : {E : Type 0} (receiver : PortKind → PortKind) (kind : E → PortKind) (stands : E → List Msg → Type 0) (ports : List PortKind) (lists lists' : ℕ → List Msg) (ends : List E) (k : ℕ) (before after : E) → EndsStand receiver kind stands ports lists ends → slice_get ends k ≡ Some before → kind after ≡ kind before → stands after (lists' k) → ((p : ℕ) → (p ≡ k → ⊥) → lists' p ≡ lists p) → EndsStand receiver kind stands ports lists' (slice_set ends k after)
ends_set {E} receiver kind stands ports lists lists' ends k before after stood there same_kind stands_then others = record {
  as_many = length-set ends k after ∙ stood.as_many;
  kinds = λ p one port is has. by_place (λ q (x : E). (port : PortKind) → slice_get ports q ≡ Some port → kind x ≡ receiver port) ends k before after there (λ port has. same_kind ∙ stood.kinds k before port there has) (λ q x differ at port has. stood.kinds q x port at has) p one is port has;
  each = by_place (λ q (x : E). stands x (lists' q)) ends k before after there stands_then (λ q x differ at. subst (stands x) (sym (others q differ)) (stood.each q x at));
}

pub out_there : (outs : List Out) (port : ℕ) (m : Msg) (more : List Msg) → outbox_in outs port ≡ m ∷ more → (o : Out) × (slice_get outs port ≡ Some o)
out_there outs port m more first = at (slice_get outs port) refl
  where
    at : (x : Option Out) → slice_get outs port ≡ x → (o : Out) × (slice_get outs port ≡ Some o)
    at None e = absurd (let lengths : 0 ≡ length (m ∷ more) = ap length (sym (ap outbox_at e) ∙ first) in omega arith)
    at (Some o) e = (o, e)

kind_of_plan : (ins : List In) (p : ℕ) (plan : PortPlan) → slice_get (map (λ (i : In). i.plan) ins) p ≡ Some plan → slice_get (map (λ (i : In). i.plan.kind) ins) p ≡ Some plan.kind
kind_of_plan [] p plan is = absurd (none-some plan is)
kind_of_plan (i ∷ ins) zero plan is = ap (λ (x : PortPlan). Some x.kind) (same_Some i.plan plan is)
kind_of_plan (i ∷ ins) (suc p) plan is = kind_of_plan ins p plan is

module _ {V : Type 0} (b : Behaviour V) (settled : V → ℕ → Type 0) (lawful : IsLawful b settled) (start : V) (position : Position) (received sent : ℕ → List Msg) (r : Runner V) (stands : Stands b settled start position received sent r) where
  pub kind_out : (p : ℕ) (o : Out) → slice_get r.outgoing p ≡ Some o → slice_get (b.ports start) p ≡ Some o.plan.kind
  kind_out p o is = subst (λ l. slice_get l p ≡ Some o.plan.kind) stands.fitted.kinds (kind_of_plan r.incoming p o.plan (subst (λ l. slice_get l p ≡ Some o.plan) stands.fitted.same_plans (get_mapped (λ (x : Out). x.plan) r.outgoing p o is)))

  pub kind_in : (p : ℕ) (i : In) → slice_get r.incoming p ≡ Some i → slice_get (b.ports start) p ≡ Some i.plan.kind
  kind_in p i is = subst (λ l. slice_get l p ≡ Some i.plan.kind) stands.fitted.kinds (get_mapped (λ (x : In). x.plan.kind) r.incoming p i is)

  pub many_in : length r.incoming ≡ length (b.ports start)
  many_in = as_many_in b settled lawful start position received sent r stands

  pub many_out : length r.outgoing ≡ length (b.ports start)
  many_out = as_many b settled lawful start position received sent r stands ∙ many_in
