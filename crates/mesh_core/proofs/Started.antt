-- A new mesh is one of its system.
use Rattle.std.proofs.Common.{◌≡◌, ℕ, zero, suc, ◌+◌, ◌≤◌, true, List, [], ◌∷◌, map, Option, Some, None, slice_get, is_some, refl, sym, ap, ◌∙◌, arith}
use Rattle.std.specs.Prelude.{All}
use Rattle.std.proofs.lemmas.Bool.{false≢true}
use Rattle.std.proofs.lemmas.Option.{none-some, same_Some, slice_get-map}
use Rattle.std.proofs.lemmas.List.Elements.{All-head, All-tail}
use Rattle.cs_base.specs.declared.link.Link.{Link}
use Rattle.cs_base.specs.declared.port_kind.PortKind.{PortKind}
use Rattle.cs_base.specs.declared.port_kind.Via.{Via}
use Rattle.cs_base.specs.declared.port_kind.Via.TheVariants.{Queue, Proxy}
use Rattle.cs_base.specs.Plan.{IsPlan, Joins, kind_at}
use Rattle.device_api.specs.Behaviour.{Behaviour, IsLawful}
use Rattle.device_api.specs.Channels.{Channel, channels}
use Rattle.global_model.specs.Step.{network}
use Rattle.run_laws.proofs.Channels.{channel_joined}
use Rattle.sync_rule.specs.declared.port_plan.PortPlan.{PortPlan}
use Rattle.sync_rule.specs.declared.runner.Runner.{Runner}
use Rattle.sync_rule.specs.Ports.{In, Out, first_in, first_out}
use Rattle.sync_laws.specs.Whole.{IsPlannedBy, AreStarted}
use Rattle.sync_laws.proofs.FirstWhole.{start_whole}
use Rattle.mesh_core.specs.Start.{numbered, two_each, plan_at, plans_of, first_runner, first_runners, kind_or, carrier_to, carriers_of, first_mesh}
use Rattle.mesh_channel.specs.Carrier.{kind_sent, unused}
use Rattle.mesh_channel.proofs.Kept.{begin}
use Rattle.mesh_core.specs.MeshOf.{IsMeshOf}
use Rattle.mesh_core.proofs.Ends.{some_mapped}
use Rattle.mesh_core.proofs.Runners.{numbered_at, length-numbered, kinds_kept, all_planned, plan_is, plan_back, all_in}

pub record IsMadeOf {X Y : Type 0} (f : ℕ → X → Y) (i : ℕ) (xs : List X) (y : Y) : Type 0 where
  pub x : X
  pub there : slice_get xs i ≡ Some x
  pub is : y ≡ f i x

pub made_of : {X Y : Type 0} (f : ℕ → X → Y) (i : ℕ) (xs : List X) (y : Y) → slice_get (numbered f 0 xs) i ≡ Some y → IsMadeOf f i xs y
made_of {X} f i xs y is = (let from : (x : X) × (slice_get xs i ≡ Some x) × (f (i + 0) x ≡ y) = some_mapped (f (i + 0)) (slice_get xs i) y (sym (numbered_at f 0 i xs) ∙ is) in record { x = from.0; there = from.1; is = sym from.2 ∙ ap (λ n. f n from.0) (let same : i + 0 ≡ i = omega arith in same) })

pub kind_there : (kind : Option PortKind) → is_some kind ≡ true → kind ≡ Some (kind_or kind)
kind_there None some = absurd (false≢true some)
kind_there (Some kind) some = refl

kind_unused : (via : Via) (kind : PortKind) (slots : ℕ) → kind_sent (unused via kind slots) ≡ kind
kind_unused Queue kind slots = refl
kind_unused Proxy kind slots = refl

record HasSlots (kinds : List (List PortKind)) (links : List Link) (k : ℕ) (ch : Channel) : Type 0 where
  link : Link
  some : 1 ≤ link.slots
  there : slice_get (carriers_of kinds links) k ≡ Some (carrier_to kinds link ch.to)

carrier_at : (kinds : List (List PortKind)) (links : List Link) → All (Joins kinds) links → (k : ℕ) (ch : Channel) → slice_get (channels links) k ≡ Some ch → HasSlots kinds links k ch
unfolding two_each
carrier_at kinds [] joins k ch is = absurd (none-some ch is)
carrier_at kinds (link ∷ more) joins zero ch is = record { link = link; some = (All-head (Joins kinds) link more joins).limits.some_slot; there = ap (λ (x : Channel). Some (carrier_to kinds link x.to)) (same_Some _ ch is) }
carrier_at kinds (link ∷ more) joins (suc zero) ch is = record { link = link; some = (All-head (Joins kinds) link more joins).limits.some_slot; there = ap (λ (x : Channel). Some (carrier_to kinds link x.to)) (same_Some _ ch is) }
carrier_at kinds (link ∷ more) joins (suc (suc k)) ch is = (let there : HasSlots kinds more k ch = carrier_at kinds more (All-tail (Joins kinds) link more joins) k ch is in record { link = there.link; some = there.some; there = there.there })

module _ {V : Type 0} (b : Behaviour V) (settled : V → ℕ → Type 0) (lawful : IsLawful b settled) (starts : List V) (links : List Link) (end : ℕ) (wired : IsPlan end (map b.ports starts) links) (at_start : All (λ (device : V). settled device 0) starts) where
  runner_is : (c : ℕ) (r : Runner V) → slice_get (first_runners b links end starts) c ≡ Some r → IsMadeOf (first_runner b links end) c starts r
  runner_is c r is = made_of (first_runner b links end) c starts r is

  out_plan : (c p : ℕ) (r : Runner V) (o : Out) → slice_get (first_runners b links end starts) c ≡ Some r → slice_get r.outgoing p ≡ Some o → (kind : PortKind) × (o.plan ≡ plan_at links c p kind)
  out_plan c p r o is out_at = (let from : (plan : PortPlan) × (slice_get (plans_of links c (b.ports (runner_is c r is).x)) p ≡ Some plan) × (first_out plan ≡ o) = some_mapped first_out (slice_get (plans_of links c (b.ports (runner_is c r is).x)) p) o (sym (slice_get-map first_out (plans_of links c (b.ports (runner_is c r is).x)) p) ∙ ap (λ (x : Runner V). slice_get x.outgoing p) (sym (runner_is c r is).is) ∙ out_at) in let made : IsMadeOf (plan_at links c) p (b.ports (runner_is c r is).x) from.0 = made_of (plan_at links c) p (b.ports (runner_is c r is).x) from.0 from.1 in (made.x, ap (λ (x : Out). x.plan) (sym from.2) ∙ made.is))

  in_plan : (c p : ℕ) (r : Runner V) (i : In) → slice_get (first_runners b links end starts) c ≡ Some r → slice_get r.incoming p ≡ Some i → (kind : PortKind) × (i.plan ≡ plan_at links c p kind)
  in_plan c p r i is in_at = (let from : (plan : PortPlan) × (slice_get (plans_of links c (b.ports (runner_is c r is).x)) p ≡ Some plan) × (first_in plan ≡ i) = some_mapped first_in (slice_get (plans_of links c (b.ports (runner_is c r is).x)) p) i (sym (slice_get-map first_in (plans_of links c (b.ports (runner_is c r is).x)) p) ∙ ap (λ (x : Runner V). slice_get x.incoming p) (sym (runner_is c r is).is) ∙ in_at) in let made : IsMadeOf (plan_at links c) p (b.ports (runner_is c r is).x) from.0 = made_of (plan_at links c) p (b.ports (runner_is c r is).x) from.0 from.1 in (made.x, ap (λ (x : In). x.plan) (sym from.2) ∙ made.is))

  planned_by : (ch : Channel) (plan : PortPlan) (kind : PortKind) → plan ≡ record { kind = kind; latency = ch.latency; interval = ch.interval } → IsPlannedBy ch plan
  planned_by ch plan kind is = record { latency = sym (ap (λ (x : PortPlan). x.latency) is); interval = sym (ap (λ (x : PortPlan). x.interval) is) }

  are_started : AreStarted (network b starts links) settled end (first_runners b links end starts)
  are_started = record {
    as_many = length-numbered (first_runner b links end) 0 starts;
    started = λ c start r starts_so is. record {
      plans = plans_of links c (b.ports start);
      is = (runner_is c r is).is ∙ ap (first_runner b links end c) (same_Some _ start (sym (runner_is c r is).there ∙ starts_so));
      kinds = kinds_kept links c 0 (b.ports start);
      planned = all_planned b starts links end wired c start starts_so;
      settled_then = all_in (λ (device : V). settled device 0) starts at_start c start starts_so;
    };
    sender = λ k ch is r o there out_at. (let plan : (kind : PortKind) × (o.plan ≡ plan_at links ch.from.component ch.from.port kind) = out_plan ch.from.component ch.from.port r o there out_at in planned_by ch o.plan plan.0 (plan.1 ∙ plan_is b starts links end wired k ch is plan.0));
    receiver = λ k ch is r i there in_at. (let plan : (kind : PortKind) × (i.plan ≡ plan_at links ch.to.component ch.to.port kind) = in_plan ch.to.component ch.to.port r i there in_at in planned_by ch i.plan plan.0 (plan.1 ∙ plan_back b starts links end wired k ch is plan.0));
  }

  pub first_is_mesh : IsMeshOf b settled starts links end (first_mesh b starts links end)
  first_is_mesh = record {
    wired = wired;
    positions = λ c. None;
    received = λ at. [];
    sent = λ at. [];
    held = λ at. [];
    whole = start_whole (network b starts links) settled lawful end (first_runners b links end starts) wired.sized.short_time are_started;
    ways = refl;
    carriers = λ k ch is. (let slots : HasSlots (map b.ports starts) links k ch = carrier_at (map b.ports starts) links wired.links_join k ch is in record { carrier = carrier_to (map b.ports starts) slots.link ch.to; there = slots.there; carries = begin slots.link.via (kind_or (kind_at (map b.ports starts) ch.to)) slots.link.slots slots.some; kind = kind_there (kind_at (map b.ports starts) ch.to) (channel_joined (network b starts links) wired k ch is).at_receiver ∙ ap Some (sym (kind_unused slots.link.via (kind_or (kind_at (map b.ports starts) ch.to)) slots.link.slots)) });
  }
