-- After a component's moment the run is under way at the next place.
use Rattle.std.specs.Prelude.{ℕ, suc, ◌≡◌, ◌≢◌, ◌==◌, ◌+◌, ◌≤◌, ◌<◌, ◌^◌, nat_le, nat_lt, Bool, true, false, if◌then◌else◌, ◌&&◌, List, [], ◌∷◌, ◌++◌, length, map, slice_get, slice_set, Option, Some, None, IsSome, IfSome, All, option_map, option_and_then, refl, ◌⊎◌}
use Rattle.std.proofs.lemmas.Bool.{false≢true, cases_eq}
use Rattle.std.proofs.lemmas.Bool.Decides.{nat_tests}
use Rattle.std.proofs.lemmas.List.{length-map, length-set}
use Rattle.std.proofs.lemmas.List.Elements.{All-nil, All-cons, All-head, All-append, All-weaker}
use Rattle.std.proofs.lemmas.Option.{slice_get-map, slice_get_within}
use Rattle.std.proofs.Common.{sym, ap, ◌∙◌, arith, subst, inl, inr, ⊎_elim, get_or, append-nil}
use Rattle.cs_base.specs.declared.link.Link.{Link}
use Rattle.cs_base.specs.declared.port_kind.PortKind.{PortKind}
use Rattle.cs_base.specs.Plan.{End, kind_at}
use Rattle.sb_message.specs.declared.message.Body.{Body}
use Rattle.sb_message.specs.declared.message.Msg.{Msg}
use Rattle.sb_message.specs.Receivable.{MayReceive}
use Rattle.device_api.specs.Behaviour.{Reaction, Behaviour}
use Rattle.device_api.specs.World.{Run, World, Event, arrivals, waiting_at, arrivals_for, react, followed_by, tick_if_due, after, slot, turn_of}
use Rattle.moment_tree.specs.declared.agenda.Moment.{Moment}
use Rattle.device_api.specs.declared.component.Component.{Component}
use Rattle.moment_tree.specs.Places.{clock}
use Rattle.global_model.specs.declared.routes.Route.{Route}
use Rattle.global_model.specs.Agenda.{has, IsNext}
use Rattle.global_model.specs.Inboxes.{port_of, end_at, StartsFrom}
use Rattle.global_model.specs.Post.{events_along, note_all, with_arrivals}
use Rattle.global_model.proofs.Quiet.{clock_past, clock_low, clock_high}
use Rattle.global_model.specs.UnderWay.{world_at, latency_at, IsHere, IsBox, IsAwake, component_of, IsUnderWay}
use Rattle.global_model.proofs.AgendaLaws.{least, AllDue-set, has-set, has-set_other}
use Rattle.global_model.proofs.ReactionLaws.{bodies_at, bodies_at-filter, take_ports}
use Rattle.global_model.specs.Step.{network, moment_in, component_after, late_of, HasStepped}
use Rattle.global_model.specs.Turn.{queue_in, queue_at, from_time, Rises, inputs_of, taken_before}
use Rattle.global_model.proofs.TurnLaws.{queue_is, from_time-all}
use Rattle.std.proofs.lemmas.List.{map-set}
use Rattle.std.proofs.lemmas.List.Elements.{All-filter}
use Rattle.device_api.specs.World.{ports_in, with_reaction}
use Rattle.global_model.proofs.UnderWay.{rises_from, get_some, option_some, if_some_weaker, position_order}
use Rattle.global_model.proofs.NextMoment.{ports_of, start_ports, queue_is_left, box_rises, kind_within, jumped}
use Rattle.global_model.proofs.Sending.{IsSent, AreRoutes, events_same, events_sent, first_to_come, no_earlier}
use Rattle.global_model.proofs.Arriving.{from_time_later, from_time-append, from_time_every, from_time_is, rises_part, rises_append, waiting_append, waiting_all, has-note_all, has-noted_all, AllDue-note_all, length-note_all}
use Rattle.global_model.proofs.Nested.{get_set_same, get_set_other, equal_from_test, unequal_from_test}
use Rattle.global_model.proofs.Quiet.{set_itself}

pub kind_there : (kinds : List (List PortKind)) (e : End) → IsSome (kind_at kinds e) → (ports : List PortKind) × (slice_get kinds e.component ≡ Some ports) × (e.port < length ports)
kind_there kinds e there = at (slice_get kinds e.component) refl there
  where
    within : (ports : List PortKind) (found : Option PortKind) → slice_get ports e.port ≡ found → IsSome found → e.port < length ports
    within ports None is some = absurd (false≢true some)
    within ports (Some k) is some = slice_get_within ports e.port k is

    at : (found : Option (List PortKind)) → slice_get kinds e.component ≡ found → IsSome (option_and_then (λ xs. slice_get xs e.port) found) → (ports : List PortKind) × (slice_get kinds e.component ≡ Some ports) × (e.port < length ports)
    at None is some = absurd (false≢true some)
    at (Some ports) is some = (ports, is, within ports (slice_get ports e.port) refl some)

same_ports_at : (kinds : List (List PortKind)) (d : ℕ) (xs ys : List PortKind) → slice_get kinds d ≡ Some xs → slice_get kinds d ≡ Some ys → xs ≡ ys
same_ports_at kinds d xs ys is is' = let same : Some xs ≡ Some ys = sym is ∙ is' in cc

clock_other : (t c d : ℕ) → c ≢ d → clock t (c + 1) d ≡ clock t c d
clock_other t c d ne = grind (arith, nat_tests)

clock_own : (t c : ℕ) → clock t (c + 1) c ≡ t + 1
clock_own t c = clock_past t (c + 1) c (omega arith)

pub clock_mono : (t c t' c' d : ℕ) → (t < t') ⊎ ((t ≡ t') × (c ≤ c')) → clock t c d ≤ clock t' c' d
clock_mono t c t' c' d order = ⊎_elim (λ lt. (let high : clock t c d ≤ t + 1 = clock_high t c d in let low : t' ≤ clock t' c' d = clock_low t' c' d in omega arith)) (λ e. subst (λ u. clock t c d ≤ clock u c' d) e.0 (more_turns t c c' d e.1)) order
  where
    more_turns : (t c c' d : ℕ) → c ≤ c' → clock t c d ≤ clock t c' d
    more_turns t c c' d le = grind (arith, nat_tests)

below_test : (x n : ℕ) → x < n → nat_lt x n ≡ true
below_test x n lt = grind (arith, nat_tests)

-- a queue's messages are all at a time or later where its first is
rises_least : (v low : ℕ) (queue : List Msg) → Rises low queue → StartsFrom v queue → All (λ (x : Msg). v ≤ x.at) queue
rises_least v low [] rises starts = All-nil (λ (x : Msg). v ≤ x.at)
rises_least v low (m ∷ more) rises starts = All-cons (λ (x : Msg). v ≤ x.at) m more starts (all_from more m.at rises.1 starts)
  where
    all_from : (queue : List Msg) (low : ℕ) → Rises low queue → v ≤ low → All (λ (x : Msg). v ≤ x.at) queue
    all_from [] low rises le = All-nil (λ (x : Msg). v ≤ x.at)
    all_from (x ∷ more) low rises le = let first : low ≤ x.at = rises.0 in All-cons (λ (y : Msg). v ≤ y.at) x more (omega arith) (all_from more x.at rises.1 (omega arith))

starts_from : (low : ℕ) (queue : List Msg) → Rises low queue → StartsFrom low queue
starts_from low [] rises = tt
starts_from low (m ∷ more) rises = rises.0

pub late_before : (due : Option ℕ) (next : ℕ) → next ≤ late_of due → IfSome due (λ u. next ≤ u)
late_before None next le = tt
late_before (Some u) next le = omega arith

pub late_after : (t : ℕ) (due : Option ℕ) → t < 10 ^ 15 → IfSome due (λ u. t < u) → t + 1 ≤ late_of due
late_after t None lt later = omega arith
late_after t (Some u) lt later = omega arith

-- what waits at a port: the port may receive it, and it arrives after at most the link's latency
record IsFit (links : List Link) (ports : List PortKind) (e : End) (t : ℕ) (m : Msg) : Type 0 where
  pub may : MayReceive ports e.port m.body
  pub bounded : m.at ≤ t + latency_at links e

module _ {S : Type 0} {b : Behaviour S} {settled : S → ℕ → Type 0} {end : ℕ} {kinds : List (List PortKind)} {links : List Link} {starts : List S} {routes : List (List (Option Route))} {t c : ℕ} {components : List (Component S)} {inboxes : List (List (List Msg))} {m : Moment} {agenda : List (Option ℕ)} (under_way : IsUnderWay b settled end kinds links starts routes t c components inboxes agenda) (next : IsNext m agenda) (component : Component S) (is : slice_get components m.component ≡ Some component) {components' : List (Component S)} {inboxes' : List (List (List Msg))} {noted agenda' : List (Option ℕ)} {soon : ℕ} (stepped : HasStepped b settled m.at m.component routes component components inboxes agenda components' inboxes' noted soon) (set : agenda' ≡ slice_set noted m.component (Some soon)) where
  -- what it sends, and the events that this makes
  abbrev sends : List (ℕ × Body)
  sends = (moment_in b m.at m.component inboxes component.device).sends

  abbrev events : List Event
  events = events_along routes m.component m.at sends

  -- the events to a port before its moment
  abbrev before : End → List Msg
  before e = waiting_at e (world_at (network b starts links) t c).pending

  pub order : (t < m.at) ⊎ ((t ≡ m.at) × (c ≤ m.component))
  order = position_order t c m.at m.component (first_to_come under_way next).not_before

  pub kinds_at : slice_get kinds m.component ≡ Some (b.ports component.device)
  kinds_at = ports_of under_way m.component component is

  same_world : world_at (network b starts links) m.at m.component ≡ world_at (network b starts links) t c
  same_world = jumped under_way m.at m.component (least next) (let below : m.component < length starts = (first_to_come under_way next).in_range in omega arith) order

  -- the component's run
  pub the_run : (run : Run S) × (slice_get (world_at (network b starts links) t c).runs m.component ≡ Some run) × (component_of run ≡ component)
  the_run = option_some component_of (slice_get (world_at (network b starts links) t c).runs m.component) component (sym (slice_get-map component_of (world_at (network b starts links) t c).runs m.component) ∙ ap (λ xs. slice_get xs m.component) (sym under_way.components_are) ∙ is)

  port_counts : ports_in b (slice_get starts m.component) ≡ length (b.ports component.device)
  port_counts =
      let start : (s : S) × (slice_get starts m.component ≡ Some s) = get_some starts m.component (first_to_come under_way next).in_range in
      ap (ports_in b) start.1 ∙ ap length (same_ports_at kinds m.component (b.ports start.0) (b.ports component.device) (start_ports under_way m.component start.0 start.1) kinds_at)

  -- the definition's reaction is the simulator's
  same_reaction : (s : S) → s ≡ component.device → react b m.at (arrivals_for (network b starts links) m.at m.component (world_at (network b starts links) t c)) s ≡ moment_in b m.at m.component inboxes component.device
  same_reaction s same_state =
      ap (λ n. react b m.at (arrivals m.at (λ p. waiting_at (end_at m.component p) (world_at (network b starts links) t c).pending) n) s) port_counts
      ∙ ap (λ (taken : Reaction S). followed_by taken (tick_if_due b m.at)) (take_ports b m.at (λ p. waiting_at (end_at m.component p) (world_at (network b starts links) t c).pending) (inputs_of inboxes m.component) (length (b.ports component.device)) (λ p lt.
      sym (bodies_at-filter m.at (clock t c m.component) (first_to_come under_way next).not_before (waiting_at (end_at m.component p) (world_at (network b starts links) t c).pending))
      ∙ ap (bodies_at m.at) (sym (queue_is_left under_way (end_at m.component p) (b.ports component.device) kinds_at lt))) s)
      ∙ ap (λ x. react b m.at (arrivals m.at (inputs_of inboxes m.component) (length (b.ports component.device))) x) same_state

  pub next_world : world_at (network b starts links) m.at (m.component + 1) ≡ with_reaction (network b starts links) m.at m.component (world_at (network b starts links) t c) the_run.0 (moment_in b m.at m.component inboxes component.device)
  unfolding slot
  next_world =
      let one_more : suc m.component ≡ m.component + 1 = omega arith in
      ap (λ n. world_at (network b starts links) m.at n) (sym one_more)
      ∙ ap (λ (x : World S). turn_of (network b starts links) m.at m.component x (slice_get x.runs m.component)) same_world
      ∙ ap (turn_of (network b starts links) m.at m.component (world_at (network b starts links) t c)) the_run.1
      ∙ ap (with_reaction (network b starts links) m.at m.component (world_at (network b starts links) t c) the_run.0) (same_reaction the_run.0.state (ap (λ (x : Component S). x.device) the_run.2))

  components_now : components' ≡ map component_of (world_at (network b starts links) m.at (m.component + 1)).runs
  components_now =
      stepped.components_are
      ∙ ap (λ (x : Component S). slice_set components m.component (component_after m.at x (moment_in b m.at m.component inboxes component.device))) (sym the_run.2)
      ∙ ap (λ xs. slice_set xs m.component (component_of (after m.at the_run.0 (moment_in b m.at m.component inboxes component.device)))) under_way.components_are
      ∙ sym (map-set component_of (world_at (network b starts links) t c).runs m.component (after m.at the_run.0 (moment_in b m.at m.component inboxes component.device)))
      ∙ ap (λ (x : World S). map component_of x.runs) (sym next_world)

  ports_now : map (λ (x : Component S). b.ports x.device) components' ≡ kinds
  ports_now =
      ap (map (λ (x : Component S). b.ports x.device)) stepped.components_are
      ∙ map-set (λ (x : Component S). b.ports x.device) components m.component (component_after m.at component (moment_in b m.at m.component inboxes component.device))
      ∙ ap (slice_set (map (λ (x : Component S). b.ports x.device) components) m.component) stepped.whole.same_ports
      ∙ ap (λ xs. slice_set xs m.component (b.ports component.device)) under_way.ports_same
      ∙ set_itself kinds m.component (b.ports component.device) kinds_at

  pub are_routes : AreRoutes routes links m.component (length (b.ports component.device))
  are_routes p lt = under_way.routed (end_at m.component p) (kind_within kinds (end_at m.component p) (b.ports component.device) kinds_at lt)

  pending_now : (world_at (network b starts links) m.at (m.component + 1)).pending ≡ (world_at (network b starts links) t c).pending ++ events
  pending_now =
      ap (λ (x : World S). x.pending) next_world
      ∙ ap (λ xs. (world_at (network b starts links) t c).pending ++ xs) (sym (events_same routes links m.component m.at (b.ports component.device) sends the_run.0.sent are_routes stepped.whole.sendable))

  all_sent : All (IsSent kinds links m.at) events
  all_sent = events_sent end kinds links under_way.plan routes m.component m.at (b.ports component.device) sends kinds_at are_routes stepped.whole.sendable

  many : length kinds ≡ length starts
  many = ap length (sym under_way.matches) ∙ length-map starts b.ports

  below_all : m.component < length agenda
  below_all = slice_get_within agenda m.component (Some m.at) next.there

  events_within : All (λ (event : Event). event.to.component < length agenda) events
  events_within = All-weaker (IsSent kinds links m.at) (λ (event : Event). event.to.component < length agenda) (λ event sent.
      let there : (ports : List PortKind) × (slice_get kinds event.to.component ≡ Some ports) × (event.to.port < length ports) = kind_there kinds event.to (subst (λ o. IsSome o) (sym sent.at_port) refl) in
      let below : event.to.component < length kinds = slice_get_within kinds event.to.component there.0 there.1 in
      let roomy : length agenda ≡ length starts = under_way.roomy in
      omega (arith, many, below)) events all_sent

  events_noted : All (λ (event : Event). has event.time event.to.component (note_all events agenda) ≡ true) events
  events_noted = has-noted_all events agenda events_within

  -- what the agenda has now: of another component what was noted, of this one its first time
  agenda_now : agenda' ≡ slice_set (note_all events agenda) m.component (Some soon)
  agenda_now = set ∙ ap (λ xs. slice_set xs m.component (Some soon)) stepped.agenda_is

  other_has : (u d : ℕ) → m.component ≢ d → has u d (note_all events agenda) ≡ true → has u d agenda' ≡ true
  other_has u d ne there = ap (has u d) agenda_now ∙ has-set_other u m.component d (Some soon) (note_all events agenda) ne ∙ there

  still_has : (u d : ℕ) → m.component ≢ d → has u d agenda ≡ true → has u d agenda' ≡ true
  still_has u d ne there = other_has u d ne (has-note_all u d events agenda there)

  own_has : (u : ℕ) → soon ≤ u → has u m.component agenda' ≡ true
  own_has u le = ap (has u m.component) agenda_now ∙ has-set u m.component soon (note_all events agenda) (subst (λ n. m.component < n) (sym (length-note_all events agenda)) below_all) le

  -- what is left of a port's queue after the moment
  module _ (e : End) (ports : List PortKind) (ports_are : slice_get kinds e.component ≡ Some ports) (lt : e.port < length ports) where
    queue_was : port_of inboxes e ≡ Some (queue_at inboxes e)
    queue_was = queue_is (port_of inboxes e) (subst (λ o. IsSome o) (sym (under_way.queues e (kind_within kinds e ports ports_are lt))) refl)

    left_before : queue_at inboxes e ≡ from_time (clock t c e.component) (before e)
    left_before = queue_is_left under_way e ports ports_are lt

    earlier : clock t c e.component ≤ clock m.at (m.component + 1) e.component
    earlier = let first : clock t c e.component ≤ clock m.at m.component e.component = clock_mono t c m.at m.component e.component order in let second : clock m.at m.component e.component ≤ clock m.at (m.component + 1) e.component = clock_mono m.at m.component m.at (m.component + 1) e.component (inr (refl, omega arith)) in omega arith

    left_now : taken_before (m.at + 1) m.component (length (b.ports component.device)) (port_of inboxes) e ≡ Some (from_time (clock m.at (m.component + 1) e.component) (queue_at inboxes e))
    left_now = at (m.component == e.component) refl
      where
        at : (here : Bool) → (m.component == e.component) ≡ here → (if here && nat_lt e.port (length (b.ports component.device)) then option_map (from_time (m.at + 1)) (port_of inboxes e) else port_of inboxes e) ≡ Some (from_time (clock m.at (m.component + 1) e.component) (queue_at inboxes e))
        at true same =
            let at_turn : m.component ≡ e.component = equal_from_test m.component e.component same in
            let same_ports : ports ≡ b.ports component.device = same_ports_at kinds e.component ports (b.ports component.device) ports_are (subst (λ d. slice_get kinds d ≡ Some (b.ports component.device)) at_turn kinds_at) in
            let below : e.port < length (b.ports component.device) = subst (λ xs. e.port < length xs) same_ports lt in
            let now : clock m.at (m.component + 1) e.component ≡ m.at + 1 = subst (λ d. clock m.at (m.component + 1) d ≡ m.at + 1) at_turn (clock_own m.at m.component) in
            ap (λ x. if x then option_map (from_time (m.at + 1)) (port_of inboxes e) else port_of inboxes e) (below_test e.port (length (b.ports component.device)) below)
            ∙ ap (option_map (from_time (m.at + 1))) queue_was
            ∙ ap (λ u. Some (from_time u (queue_at inboxes e))) (sym now)
        at false differs =
            let other : clock m.at (m.component + 1) e.component ≡ clock m.at m.component e.component = clock_other m.at m.component e.component (unequal_from_test m.component e.component differs) in
            queue_was
            ∙ ap Some (sym (from_time-all (clock m.at m.component e.component) (clock m.at m.component e.component) (queue_at inboxes e) (omega arith) (box_rises under_way m.at m.component (least next) e ports ports_are lt)))
            ∙ ap (λ u. Some (from_time u (queue_at inboxes e))) (sym other)

    -- the queue is what was left and what was sent
    queue_now : port_of inboxes' e ≡ Some (from_time (clock m.at (m.component + 1) e.component) (queue_at inboxes e) ++ waiting_at e events)
    queue_now = stepped.inboxes_are e ∙ ap (with_arrivals e events) left_now

    sent_later : All (λ (x : Msg). clock m.at (m.component + 1) e.component ≤ x.at) (waiting_at e events)
    sent_later = waiting_all (λ (x : Msg). clock m.at (m.component + 1) e.component ≤ x.at) (IsSent kinds links m.at) e events (λ event sent to. (let after_now : m.at + 1 ≤ event.time = sent.later in let high : clock m.at (m.component + 1) e.component ≤ m.at + 1 = clock_high m.at (m.component + 1) e.component in omega arith)) all_sent

    queues_now : port_of inboxes' e ≡ Some (from_time (clock m.at (m.component + 1) e.component) (waiting_at e (world_at (network b starts links) m.at (m.component + 1)).pending))
    queues_now =
        queue_now
        ∙ ap (λ xs. Some (from_time (clock m.at (m.component + 1) e.component) xs ++ waiting_at e events)) left_before
        ∙ ap (λ xs. Some (xs ++ waiting_at e events)) (from_time_later (clock t c e.component) (clock m.at (m.component + 1) e.component) earlier (before e))
        ∙ ap (λ xs. Some (from_time (clock m.at (m.component + 1) e.component) (before e) ++ xs)) (sym (from_time_every (clock m.at (m.component + 1) e.component) (waiting_at e events) sent_later))
        ∙ ap Some (sym (from_time-append (clock m.at (m.component + 1) e.component) (before e) (waiting_at e events)))
        ∙ ap (λ xs. Some (from_time (clock m.at (m.component + 1) e.component) xs)) (sym (waiting_append e (world_at (network b starts links) t c).pending events))
        ∙ ap (λ xs. Some (from_time (clock m.at (m.component + 1) e.component) (waiting_at e xs))) (sym pending_now)

    box : IsBox links agenda ports e t (clock t c e.component) (queue_at inboxes e)
    box = under_way.boxes e ports ports_are lt

    here_left : All (IsFit links ports e m.at) (from_time (clock m.at (m.component + 1) e.component) (queue_at inboxes e))
    here_left k d below =
        let kept : IsHere links agenda ports e t (get_or (from_time (clock m.at (m.component + 1) e.component) (queue_at inboxes e)) k d) = All-filter (λ (x : Msg). nat_le (clock m.at (m.component + 1) e.component) x.at) (IsHere links agenda ports e t) (queue_at inboxes e) box.here k d below in
        let bound : (get_or (from_time (clock m.at (m.component + 1) e.component) (queue_at inboxes e)) k d).at ≤ t + latency_at links e = kept.bounded in
        let early : t ≤ m.at = no_earlier under_way next in
        record { may = kept.may; bounded = omega arith }

    here_sent : All (IsFit links ports e m.at) (waiting_at e events)
    here_sent =
        waiting_all (IsFit links ports e m.at) (IsSent kinds links m.at) e events (λ event sent to.
        let kind : kind_at kinds e ≡ Some sent.kind = subst (λ x. kind_at kinds x ≡ Some sent.kind) to sent.at_port in
        let at_port : slice_get ports e.port ≡ Some sent.kind = ap (option_and_then (λ xs. slice_get xs e.port)) (sym ports_are) ∙ kind in
        let stamp : event.time ≡ m.at + latency_at links e = subst (λ x. event.time ≡ m.at + latency_at links x) to sent.stamped in
        record {
          may = record { kind = sent.kind; at_port = at_port; fits = sent.fits; event = sent.is_event };
          bounded = omega arith;
        }) all_sent

    -- at another component's port the agenda has what it had and what was noted
    covered_other : m.component ≢ e.component → All (λ (x : Msg). has x.at e.component agenda' ≡ true) (from_time (clock m.at (m.component + 1) e.component) (queue_at inboxes e) ++ waiting_at e events)
    covered_other ne = All-append (λ (x : Msg). has x.at e.component agenda' ≡ true) (from_time (clock m.at (m.component + 1) e.component) (queue_at inboxes e)) (waiting_at e events)
        (λ k d below. still_has (get_or (from_time (clock m.at (m.component + 1) e.component) (queue_at inboxes e)) k d).at e.component ne (All-filter (λ (x : Msg). nat_le (clock m.at (m.component + 1) e.component) x.at) (IsHere links agenda ports e t) (queue_at inboxes e) box.here k d below).covered)
        (waiting_all (λ (x : Msg). has x.at e.component agenda' ≡ true) (λ event. has event.time event.to.component (note_all events agenda) ≡ true) e events (λ event there to. other_has event.time e.component ne (subst (λ (x : End). has event.time x.component (note_all events agenda) ≡ true) to there)) events_noted)

    stamps : All (λ (x : Msg). x.at ≡ m.at + latency_at links e) (waiting_at e events)
    stamps = waiting_all (λ (x : Msg). x.at ≡ m.at + latency_at links e) (IsSent kinds links m.at) e events (λ event sent to. subst (λ x. event.time ≡ m.at + latency_at links x) to sent.stamped) all_sent

    some_latency : (n : ℕ) → All (λ (x : Msg). m.at + 1 ≤ x.at) (waiting_at e events) → All (λ (x : Msg). x.at ≡ m.at + n) (waiting_at e events) → (waiting_at e events ≡ []) ⊎ (m.at + 1 ≤ m.at + n)
    some_latency n after_now same = at (waiting_at e events) after_now same
      where
        at : (xs : List Msg) → All (λ (x : Msg). m.at + 1 ≤ x.at) xs → All (λ (x : Msg). x.at ≡ m.at + n) xs → (xs ≡ []) ⊎ (m.at + 1 ≤ m.at + n)
        at [] after_now same = inl refl
        at (x ∷ xs) after_now same = inr (let first : m.at + 1 ≤ x.at = All-head (λ (y : Msg). m.at + 1 ≤ y.at) x xs after_now in let is_at : x.at ≡ m.at + n = All-head (λ (y : Msg). y.at ≡ m.at + n) x xs same in omega arith)

    sent_after : All (λ (x : Msg). m.at + 1 ≤ x.at) (waiting_at e events)
    sent_after = waiting_all (λ (x : Msg). m.at + 1 ≤ x.at) (IsSent kinds links m.at) e events (λ event sent to. sent.later) all_sent

    left_bounded : All (λ (x : Msg). x.at ≤ m.at + latency_at links e) (from_time (clock m.at (m.component + 1) e.component) (queue_at inboxes e))
    left_bounded = All-weaker (IsFit links ports e m.at) (λ (x : Msg). x.at ≤ m.at + latency_at links e) (λ x here. here.bounded) (from_time (clock m.at (m.component + 1) e.component) (queue_at inboxes e)) here_left

    left_rises : Rises (clock m.at (m.component + 1) e.component) (from_time (clock m.at (m.component + 1) e.component) (queue_at inboxes e))
    left_rises = rises_from (clock m.at (m.component + 1) e.component) (clock t c e.component) (from_time (clock m.at (m.component + 1) e.component) (queue_at inboxes e)) (rises_part (clock m.at (m.component + 1) e.component) (clock t c e.component) (queue_at inboxes e) box.rises) (from_time_is (clock m.at (m.component + 1) e.component) (queue_at inboxes e))

    all_rises : Rises (clock m.at (m.component + 1) e.component) (from_time (clock m.at (m.component + 1) e.component) (queue_at inboxes e) ++ waiting_at e events)
    all_rises = ⊎_elim
        (λ none. subst (λ ys. Rises (clock m.at (m.component + 1) e.component) (from_time (clock m.at (m.component + 1) e.component) (queue_at inboxes e) ++ ys)) (sym none) (subst (Rises (clock m.at (m.component + 1) e.component)) (sym (append-nil (from_time (clock m.at (m.component + 1) e.component) (queue_at inboxes e)))) left_rises))
        (λ some. rises_append (clock m.at (m.component + 1) e.component) (m.at + latency_at links e) (from_time (clock m.at (m.component + 1) e.component) (queue_at inboxes e)) (waiting_at e events) (let high : clock m.at (m.component + 1) e.component ≤ m.at + 1 = clock_high m.at (m.component + 1) e.component in omega arith) left_rises left_bounded stamps)
        (some_latency (latency_at links e) sent_after stamps)

    now_rises : Rises (clock m.at (m.component + 1) e.component) (queue_at inboxes' e)
    now_rises = subst (Rises (clock m.at (m.component + 1) e.component)) (sym (ap queue_in queue_now)) all_rises

    -- at its own ports the agenda has the first time
    covered_own : m.component ≡ e.component → All (λ (x : Msg). has x.at e.component agenda' ≡ true) (queue_at inboxes' e)
    covered_own same =
        let same_ports : ports ≡ b.ports component.device = same_ports_at kinds e.component ports (b.ports component.device) ports_are (subst (λ d. slice_get kinds d ≡ Some (b.ports component.device)) same kinds_at) in
        let below : e.port < length (b.ports component.device) = subst (λ xs. e.port < length xs) same_ports lt in
        let first : StartsFrom soon (queue_at inboxes' e) = subst (λ d. StartsFrom soon (queue_at inboxes' (end_at d e.port))) same (stepped.soonest.heads e.port below) in
        All-weaker (λ (x : Msg). soon ≤ x.at) (λ (x : Msg). has x.at e.component agenda' ≡ true) (λ x le. subst (λ d. has x.at d agenda' ≡ true) same (own_has x.at le)) (queue_at inboxes' e) (rises_least soon (clock m.at (m.component + 1) e.component) (queue_at inboxes' e) now_rises first)

    covered_now : All (λ (x : Msg). has x.at e.component agenda' ≡ true) (queue_at inboxes' e)
    covered_now = ⊎_elim covered_own (λ ne. subst (All (λ (x : Msg). has x.at e.component agenda' ≡ true)) (sym (ap queue_in queue_now)) (covered_other ne)) (cases_eq m.component e.component)

    fit_now : All (IsFit links ports e m.at) (queue_at inboxes' e)
    fit_now = subst (All (IsFit links ports e m.at)) (sym (ap queue_in queue_now)) (All-append (IsFit links ports e m.at) (from_time (clock m.at (m.component + 1) e.component) (queue_at inboxes e)) (waiting_at e events) here_left here_sent)

    box_now : IsBox links agenda' ports e m.at (clock m.at (m.component + 1) e.component) (queue_at inboxes' e)
    box_now = record { rises = now_rises; here = λ k d below. record { may = (fit_now k d below).may; bounded = (fit_now k d below).bounded; covered = covered_now k d below } }

  -- the devices
  awake_now : (d : ℕ) (x : Component S) → slice_get components' d ≡ Some x → IsAwake b settled m.at d agenda' x
  awake_now d x found = at (m.component == d) refl
    where
      found_in : slice_get (slice_set components m.component (component_after m.at component (moment_in b m.at m.component inboxes component.device))) d ≡ Some x
      found_in = ap (λ xs. slice_get xs d) (sym stepped.components_are) ∙ found

      within : m.component < length components
      within = slice_get_within components m.component component is

      at : (here : Bool) → (m.component == d) ≡ here → IsAwake b settled m.at d agenda' x
      at true same =
          let here : m.component ≡ d = equal_from_test m.component d same in
          let is_it : Some (component_after m.at component (moment_in b m.at m.component inboxes component.device)) ≡ Some x = sym (get_set_same components m.component (component_after m.at component (moment_in b m.at m.component inboxes component.device)) within) ∙ subst (λ n. slice_get (slice_set components m.component (component_after m.at component (moment_in b m.at m.component inboxes component.device))) n ≡ Some x) (sym here) found_in in
          let it : component_after m.at component (moment_in b m.at m.component inboxes component.device) ≡ x = cc in
          let due : IfSome (b.due (moment_in b m.at m.component inboxes component.device).state) (λ u. has u m.component agenda' ≡ true) = if_some_weaker (λ u. soon ≤ u) (λ u. has u m.component agenda' ≡ true) (b.due (moment_in b m.at m.component inboxes component.device).state) own_has (late_before (b.due (moment_in b m.at m.component inboxes component.device).state) soon stepped.soonest.at_most) in
          subst (λ n. IsAwake b settled m.at n agenda' x) here (subst (IsAwake b settled m.at m.component agenda') it (record { settled_then = stepped.whole.settled_after; due_noted = due }))
      at false differs =
          let ne : m.component ≢ d = unequal_from_test m.component d differs in
          let before_it : slice_get components d ≡ Some x = sym (get_set_other components m.component d (component_after m.at component (moment_in b m.at m.component inboxes component.device)) ne) ∙ found_in in
          let was : IsAwake b settled t d agenda x = under_way.awake d x before_it in
          record {
            settled_then = (under_way.lawful.at x.device).settled_later (t + 1) (m.at + 1) was.settled_then (let early : t ≤ m.at = no_earlier under_way next in omega arith);
            due_noted = if_some_weaker (λ u. has u d agenda ≡ true) (λ u. has u d agenda' ≡ true) (b.due x.device) (λ u there. still_has u d ne there) was.due_noted;
          }

  -- no time of the agenda is before the next place
  own_later : m.at < end → m.at + 1 ≤ soon
  own_later before_end =
      let short : end ≤ 10 ^ 15 = under_way.plan.sized.short_time in
      let in_run : m.at < 10 ^ 15 = omega arith in
      stepped.soonest.low (m.at + 1) (late_after m.at (b.due (moment_in b m.at m.component inboxes component.device).state) in_run stepped.whole.later) (λ p lt. starts_from (m.at + 1) (queue_at inboxes' (end_at m.component p)) (subst (λ x. Rises x (queue_at inboxes' (end_at m.component p))) (clock_own m.at m.component) (now_rises (end_at m.component p) (b.ports component.device) kinds_at lt)))

  noted_later : (d u : ℕ) → slice_get (note_all events agenda) d ≡ Some (Some u) → m.component ≢ d → clock m.at (m.component + 1) d ≤ u
  noted_later = AllDue-note_all (λ d u. m.component ≢ d → clock m.at (m.component + 1) d ≤ u) events agenda
      (All-weaker (IsSent kinds links m.at) (λ (event : Event). m.component ≢ event.to.component → clock m.at (m.component + 1) event.to.component ≤ event.time) (λ event sent ne. (let high : clock m.at (m.component + 1) event.to.component ≤ m.at + 1 = clock_high m.at (m.component + 1) event.to.component in let after_now : m.at + 1 ≤ event.time = sent.later in omega arith)) events all_sent)
      (λ d u found ne. (let other : clock m.at (m.component + 1) d ≡ clock m.at m.component d = clock_other m.at m.component d ne in let first : clock m.at m.component d ≤ u = next.first d u found in omega arith))

  to_come_now : m.at < end → (d u : ℕ) → slice_get agenda' d ≡ Some (Some u) → clock m.at (m.component + 1) d ≤ u
  to_come_now before_end d u found = AllDue-set (λ d u. clock m.at (m.component + 1) d ≤ u) m.component soon (note_all events agenda) (let own : clock m.at (m.component + 1) m.component ≡ m.at + 1 = clock_own m.at m.component in let later : m.at + 1 ≤ soon = own_later before_end in omega arith) noted_later d u (ap (λ xs. slice_get xs d) (sym agenda_now) ∙ found)

  -- the run is under way at the next place
  pub next_place : m.at < end → IsUnderWay b settled end kinds links starts routes m.at (m.component + 1) components' inboxes' agenda'
  next_place before_end = record {
    lawful = under_way.lawful;
    plan = under_way.plan;
    matches = under_way.matches;
    routed = under_way.routed;
    within = inl before_end;
    in_range = (let below : m.component < length starts = (first_to_come under_way next).in_range in omega arith);
    components_are = components_now;
    ports_same = ports_now;
    queues = λ e there. (let port : (ports : List PortKind) × (slice_get kinds e.component ≡ Some ports) × (e.port < length ports) = kind_there kinds e there in queues_now e port.0 port.1 port.2);
    boxes = λ e ports ports_are lt. box_now e ports ports_are lt;
    awake = awake_now;
    roomy = ap length agenda_now ∙ length-set (note_all events agenda) m.component (Some soon) ∙ length-note_all events agenda ∙ under_way.roomy;
    to_come = to_come_now before_end;
  }
