-- A run may stand at any place that no moment of its agenda comes before.
use Rattle.std.specs.Prelude.{ℕ, ◌≡◌, ◌+◌, ◌≤◌, ◌<◌, ◌⊎◌, true, List, length, map, slice_get, Option, Some, IsSome, refl}
use Rattle.std.proofs.lemmas.List.Elements.{All-weaker}
use Rattle.std.proofs.Common.{sym, ap, ◌∙◌, arith, subst, inl, inr, ⊎_elim}
use Rattle.cs_base.specs.declared.link.Link.{Link}
use Rattle.cs_base.specs.declared.port_kind.PortKind.{PortKind}
use Rattle.cs_base.specs.Plan.{End, kind_at}
use Rattle.sb_message.specs.declared.message.Msg.{Msg}
use Rattle.device_api.specs.declared.component.Component.{Component}
use Rattle.device_api.specs.Behaviour.{Behaviour}
use Rattle.device_api.specs.World.{waiting_at, World}
use Rattle.moment_tree.specs.Places.{clock}
use Rattle.global_model.specs.declared.routes.Route.{Route}
use Rattle.global_model.specs.Agenda.{has}
use Rattle.global_model.specs.Inboxes.{port_of}
use Rattle.global_model.specs.Step.{network}
use Rattle.global_model.specs.Turn.{queue_at, from_time}
use Rattle.global_model.specs.UnderWay.{world_at, latency_at, IsHere, IsBox, IsAwake, component_of, IsUnderWay}
use Rattle.global_model.proofs.AgendaLaws.{some_has}
use Rattle.global_model.proofs.TurnLaws.{queue_is, from_time-all}
use Rattle.global_model.proofs.Arriving.{from_time_later}
use Rattle.global_model.proofs.NextMoment.{queue_is_left, box_rises, jumped}
use Rattle.global_model.proofs.AfterStep.{clock_mono, kind_there}
use Rattle.global_model.proofs.Quiet.{clock_at}

pub order_until : (t c until : ℕ) → t ≤ until → (t ≡ until → c ≡ 0) → (t < until) ⊎ ((t ≡ until) × (c ≤ 0))
order_until t c until le at_time = ⊎_elim (λ lt. inl lt) (λ e. (let none : c ≡ 0 = at_time e in inr (e, omega arith))) (cases_le t until le)
  where
    cases_le : (x y : ℕ) → x ≤ y → (x < y) ⊎ (x ≡ y)
    cases_le x y le = grind arith

pub bound_until : (until : ℕ) (agenda : List (Option ℕ)) → ((u d : ℕ) → has u d agenda ≡ true → until ≤ u) → (u d : ℕ) → has u d agenda ≡ true → clock until 0 d ≤ u
bound_until until agenda none_before u d there = let begins : clock until 0 d ≡ until = clock_at until 0 d (omega arith) in let le : until ≤ u = none_before u d there in omega arith

module _ {S : Type 0} {b : Behaviour S} {settled : S → ℕ → Type 0} {end : ℕ} {kinds : List (List PortKind)} {links : List Link} {starts : List S} {routes : List (List (Option Route))} {t c : ℕ} {components : List (Component S)} {inboxes : List (List (List Msg))} {agenda : List (Option ℕ)} (under_way : IsUnderWay b settled end kinds links starts routes t c components inboxes agenda) where
  module _ (t' c' : ℕ) (bound : (u d : ℕ) → has u d agenda ≡ true → clock t' c' d ≤ u) (order : (t < t') ⊎ ((t ≡ t') × (c ≤ c'))) (in_range : c' ≤ length starts) where
    no_earlier : t ≤ t'
    no_earlier = ⊎_elim (λ lt. omega arith) (λ e. (let same : t ≡ t' = e.0 in omega arith)) order

    same_world : world_at (network b starts links) t' c' ≡ world_at (network b starts links) t c
    same_world = jumped under_way t' c' bound in_range order

    queues_there : (e : End) → IsSome (kind_at kinds e) → port_of inboxes e ≡ Some (from_time (clock t' c' e.component) (waiting_at e (world_at (network b starts links) t' c').pending))
    queues_there e there =
        let port : (ports : List PortKind) × (slice_get kinds e.component ≡ Some ports) × (e.port < length ports) = kind_there kinds e there in
        let waiting : List Msg = waiting_at e (world_at (network b starts links) t c).pending in
        queue_is (port_of inboxes e) (subst (λ o. IsSome o) (sym (under_way.queues e there)) refl)
        ∙ ap Some (sym (from_time-all (clock t' c' e.component) (clock t' c' e.component) (queue_at inboxes e) (omega arith) (box_rises under_way t' c' bound e port.0 port.1 port.2)))
        ∙ ap (λ xs. Some (from_time (clock t' c' e.component) xs)) (queue_is_left under_way e port.0 port.1 port.2)
        ∙ ap Some (from_time_later (clock t c e.component) (clock t' c' e.component) (clock_mono t c t' c' e.component order) waiting)
        ∙ ap (λ (x : World S). Some (from_time (clock t' c' e.component) (waiting_at e x.pending))) (sym same_world)

    box_there : (e : End) (ports : List PortKind) → slice_get kinds e.component ≡ Some ports → e.port < length ports → IsBox links agenda ports e t' (clock t' c' e.component) (queue_at inboxes e)
    box_there e ports is lt = record {
      rises = box_rises under_way t' c' bound e ports is lt;
      here = All-weaker (IsHere links agenda ports e t) (IsHere links agenda ports e t') (λ x here. record { may = here.may; bounded = (let before : x.at ≤ t + latency_at links e = here.bounded in let le : t ≤ t' = no_earlier in omega arith); covered = here.covered }) (queue_at inboxes e) (under_way.boxes e ports is lt).here;
    }

    pub comes_to : (t' < end) ⊎ ((t' ≡ end) × (c' ≡ 0)) → IsUnderWay b settled end kinds links starts routes t' c' components inboxes agenda
    comes_to within = record {
      lawful = under_way.lawful;
      plan = under_way.plan;
      matches = under_way.matches;
      routed = under_way.routed;
      within = within;
      in_range = in_range;
      components_are = under_way.components_are ∙ ap (λ (x : World S). map component_of x.runs) (sym same_world);
      ports_same = under_way.ports_same;
      queues = queues_there;
      boxes = box_there;
      awake = λ d component is. (let was : IsAwake b settled t d agenda component = under_way.awake d component is in let le : t ≤ t' = no_earlier in record { settled_then = (under_way.lawful.at component.device).settled_later (t + 1) (t' + 1) was.settled_then (omega arith); due_noted = was.due_noted });
      roomy = under_way.roomy;
      to_come = λ d u found. bound u d (some_has u d u agenda found (omega arith));
    }

  -- up to a time before which the agenda has nothing
  pub comes_to_time : (until : ℕ) → t ≤ until → (t ≡ until → c ≡ 0) → until ≤ end → ((u d : ℕ) → has u d agenda ≡ true → until ≤ u) → IsUnderWay b settled end kinds links starts routes until 0 components inboxes agenda
  comes_to_time until le at_time in_run none_before = comes_to until 0 (bound_until until agenda none_before) (order_until t c until le at_time) (omega arith) (ends (cases_le until end in_run))
    where
      cases_le : (x y : ℕ) → x ≤ y → (x < y) ⊎ (x ≡ y)
      cases_le x y le = grind arith

      none : ℕ
      none = 0

      ends : (until < end) ⊎ (until ≡ end) → (until < end) ⊎ ((until ≡ end) × (none ≡ 0))
      ends which = ⊎_elim (λ lt. inl lt) (λ e. inr (e, refl)) which
