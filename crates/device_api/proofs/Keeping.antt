-- The laws of a device at one state, lifted to all states that it comes to.
use Rattle.std.proofs.Common.{ℕ, ◌≡◌, ◌≤◌, ◌+◌, refl, subst, sym, ◌∙◌}
use Rattle.std.specs.Prelude.{length, List}
use Rattle.cs_base.specs.declared.port_kind.PortKind.{PortKind}
use Rattle.device_api.specs.Behaviour.{Behaviour, IsLawful, IsOrderly}
use Rattle.device_api.specs.Reached.{IsReached, at_start, by_take, by_tick, IsKept}

module _ {S : Type 0} (b : Behaviour S) (settled : S → ℕ → Type 0) (start : S) (lawful : IsLawful b settled) (starts : settled start 0) where
  pub few_at_start : length (b.ports start) ≤ 32
  few_at_start = (lawful.at start).few_ports 0 starts

  pub kept : (s : S) (t : ℕ) → b.ports s ≡ b.ports start → settled s (t + 1) → IsKept b settled start s
  kept s t same after = record {
    same_ports = same;
    few_ports = subst (λ (ports : List PortKind). length ports ≤ 32) (sym same) few_at_start;
    last = t + 1;
    settled_after = λ x le. (lawful.at s).settled_later (t + 1) x after le;
  }

  pub reached_kept : (s : S) → IsReached b settled start s → IsKept b settled start s
  reached_kept s at_start = record { same_ports = refl; few_ports = few_at_start; last = 0; settled_after = λ x le. (lawful.at start).settled_later 0 x starts le }
  reached_kept s' (by_take s t port body reached may due in_run then) =
      let orderly : IsOrderly b settled s t (b.take s t port body) = (lawful.at s).take_orderly t port body may due in_run then in
      kept (b.take s t port body).state t (orderly.same_ports ∙ (reached_kept s reached).same_ports) orderly.settled_after
  reached_kept s' (by_tick s t reached due in_run then) =
      let orderly : IsOrderly b settled s t (b.tick s t) = (lawful.at s).tick_orderly t due in_run then in
      kept (b.tick s t).state t (orderly.same_ports ∙ (reached_kept s reached).same_ports) orderly.settled_after
