-- From one moment of the agenda to the next.
use Rattle.std.specs.Prelude.{ℕ, ◌≡◌, ◌≤◌, ◌<◌, true, List, [], length, slice_get, Option, Some, IsSome, option_map, option_and_then, refl, ◌⊎◌}
use Rattle.std.proofs.lemmas.List.Elements.{All-weaker}
use Rattle.std.proofs.lemmas.Option.{slice_get-map}
use Rattle.std.proofs.Common.{sym, ap, ◌∙◌, arith, subst}
use Rattle.cs_base.specs.declared.link.Link.{Link}
use Rattle.cs_base.specs.declared.port_kind.PortKind.{PortKind}
use Rattle.cs_base.specs.Plan.{End, kind_at}
use Rattle.sb_message.specs.declared.message.Msg.{Msg}
use Rattle.device_api.specs.Behaviour.{Behaviour}
use Rattle.device_api.specs.World.{ports_in, Run, arrivals, waiting_at}
use Rattle.device_api.specs.declared.component.Component.{Component}
use Rattle.moment_tree.specs.Places.{clock}
use Rattle.global_model.specs.declared.routes.Route.{Route}
use Rattle.global_model.specs.Agenda.{has}
use Rattle.global_model.specs.Inboxes.{end_at}
use Rattle.global_model.proofs.Quiet.{Rests, jump}
use Rattle.global_model.specs.UnderWay.{world_at, IsHere, IsBox, component_of, IsUnderWay}
use Rattle.global_model.proofs.ReactionLaws.{bodies_at, bodies_at-filter}
use Rattle.global_model.specs.Step.{network}
use Rattle.global_model.specs.Turn.{queue_in, queue_at, from_time, Rises}
use Rattle.global_model.proofs.TurnLaws.{none_at}
use Rattle.global_model.proofs.UnderWay.{rises_from, arrivals-none, get_some, is_at_other, if_some_weaker}

pub kind_within : (kinds : List (List PortKind)) (e : End) (ports : List PortKind) → slice_get kinds e.component ≡ Some ports → e.port < length ports → IsSome (kind_at kinds e)
kind_within kinds e ports is lt =
    let kind : (k : PortKind) × (slice_get ports e.port ≡ Some k) = get_some ports e.port lt in
    subst (λ o. IsSome (option_and_then (λ xs. slice_get xs e.port) o)) (sym is) (subst (λ o. IsSome o) (sym kind.1) refl)

module _ {S : Type 0} {b : Behaviour S} {settled : S → ℕ → Type 0} {end : ℕ} {kinds : List (List PortKind)} {links : List Link} {starts : List S} {routes : List (List (Option Route))} {t c : ℕ} {components : List (Component S)} {inboxes : List (List (List Msg))} {agenda : List (Option ℕ)} (under_way : IsUnderWay b settled end kinds links starts routes t c components inboxes agenda) where
  -- the ports of a component, by its device, and by its start
  pub ports_of : (d : ℕ) (component : Component S) → slice_get components d ≡ Some component → slice_get kinds d ≡ Some (b.ports component.device)
  ports_of d component is = ap (λ xs. slice_get xs d) (sym under_way.ports_same) ∙ slice_get-map (λ (x : Component S). b.ports x.device) components d ∙ ap (option_map (λ (x : Component S). b.ports x.device)) is

  pub start_ports : (d : ℕ) (s : S) → slice_get starts d ≡ Some s → slice_get kinds d ≡ Some (b.ports s)
  start_ports d s is = ap (λ xs. slice_get xs d) (sym under_way.matches) ∙ slice_get-map b.ports starts d ∙ ap (option_map b.ports) is

  pub queue_is_left : (e : End) (ports : List PortKind) → slice_get kinds e.component ≡ Some ports → e.port < length ports → queue_at inboxes e ≡ from_time (clock t c e.component) (waiting_at e (world_at (network b starts links) t c).pending)
  queue_is_left e ports is lt = ap queue_in (under_way.queues e (kind_within kinds e ports is lt))

  pub component_at : (d : ℕ) (run : Run S) → slice_get (world_at (network b starts links) t c).runs d ≡ Some run → slice_get components d ≡ Some (component_of run)
  component_at d run is = ap (λ xs. slice_get xs d) under_way.components_are ∙ slice_get-map component_of (world_at (network b starts links) t c).runs d ∙ ap (option_map component_of) is

  -- a place of the run that no moment of the agenda comes before
  module _ (t' c' : ℕ) (bound : (u d : ℕ) → has u d agenda ≡ true → clock t' c' d ≤ u) where
    pub box_rises : (e : End) (ports : List PortKind) → slice_get kinds e.component ≡ Some ports → e.port < length ports → Rises (clock t' c' e.component) (queue_at inboxes e)
    box_rises e ports is lt =
        let box : IsBox links agenda ports e t (clock t c e.component) (queue_at inboxes e) = under_way.boxes e ports is lt in
        rises_from (clock t' c' e.component) (clock t c e.component) (queue_at inboxes e) box.rises (All-weaker (IsHere links agenda ports e t) (λ (x : Msg). clock t' c' e.component ≤ x.at) (λ x here. bound x.at e.component here.covered) (queue_at inboxes e) box.here)

    none_in : (u d p : ℕ) (ports : List PortKind) → slice_get kinds d ≡ Some ports → p < length ports → clock t c d ≤ u → u < clock t' c' d → bodies_at u (waiting_at (end_at d p) (world_at (network b starts links) t c).pending) ≡ []
    none_in u d p ports is lt low high =
        sym (bodies_at-filter u (clock t c d) low (waiting_at (end_at d p) (world_at (network b starts links) t c).pending))
        ∙ ap (bodies_at u) (sym (queue_is_left (end_at d p) ports is lt))
        ∙ none_at u (clock t' c' d) (queue_at inboxes (end_at d p)) high (box_rises (end_at d p) ports is lt)

    -- until then nothing happens
    rests : (u d : ℕ) → d < length starts → clock t c d ≤ u → u < clock t' c' d → Rests (network b starts links) u d (world_at (network b starts links) t c)
    rests u d below low high =
        let start : (s : S) × (slice_get starts d ≡ Some s) = get_some starts d below in
        let inputs : ℕ → List Msg = λ p. waiting_at (end_at d p) (world_at (network b starts links) t c).pending in
        record {
          none_arrives = ap (λ found. arrivals u inputs (ports_in b found)) start.1 ∙ arrivals-none u (length (b.ports start.0)) inputs (λ p lt. none_in u d p (b.ports start.0) (start_ports d start.0 start.1) lt low high);
          not_due = λ run is. is_at_other (b.due run.state) u (if_some_weaker (λ x. has x d agenda ≡ true) (λ x. u < x) (b.due run.state) (λ x there. (let le : clock t' c' d ≤ x = bound x d there in omega arith)) (under_way.awake d (component_of run) (component_at d run is)).due_noted);
        }

    pub jumped : c' ≤ length starts → (t < t') ⊎ ((t ≡ t') × (c ≤ c')) → world_at (network b starts links) t' c' ≡ world_at (network b starts links) t c
    jumped in_range order = jump (network b starts links) t c t' c' (world_at (network b starts links) t c) under_way.in_range in_range order rests refl
