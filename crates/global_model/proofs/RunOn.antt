-- A component that ticks alone makes the moments of the run.
use Rattle.std.specs.Prelude.{ℕ, suc, zero, ◌≡◌, ◌==◌, ◌+◌, ◌-◌, ◌*◌, ◌≤◌, ◌<◌, ◌^◌, min, nat_lt, Bool, true, false, if◌then◌else◌, ◌&&◌, List, [], ◌∷◌, ◌++◌, length, slice_get, slice_set, All, Option, Some, None, IsSome, IfSome, option_map, refl}
use Rattle.std.proofs.lemmas.Bool.{cases_lt}
use Rattle.std.proofs.lemmas.Bool.Decides.{nat_tests}
use Rattle.std.proofs.lemmas.List.{length-set, set-get_or}
use Rattle.std.proofs.lemmas.Option.{slice_get_within}
use Rattle.std.proofs.Common.{get_or, is_lt, nat_cmp, sym, ap, ◌∙◌, arith, subst, ⊎_elim, append-nil}
use Rattle.cs_base.specs.declared.link.Link.{Link}
use Rattle.cs_base.specs.declared.port_kind.PortKind.{PortKind}
use Rattle.cs_base.specs.Plan.{End}
use Rattle.sb_message.specs.declared.message.Body.{Body}
use Rattle.sb_message.specs.declared.message.Msg.{Msg}
use Rattle.sb_message.specs.Receivable.{MaySend}
use Rattle.device_api.specs.Behaviour.{Reaction, Behaviour}
use Rattle.device_api.specs.World.{followed_by, rest, take_all, is_at, react, logged_at}
use Rattle.device_api.specs.declared.component.Component.{Component}
use Rattle.moment_tree.specs.declared.agenda.Moment.{Moment}
use Rattle.moment_tree.specs.Dues.{sooner}
use Rattle.moment_tree.specs.Places.{clock}
use Rattle.global_model.specs.declared.routes.Route.{Route}
use Rattle.global_model.specs.Agenda.{IsNext}
use Rattle.global_model.specs.Inboxes.{port_of, end_at, StartsFrom, IsSoonest}
use Rattle.global_model.specs.Post.{events_along, note_all, with_arrivals}
use Rattle.global_model.specs.Reactions.{IsMoment}
use Rattle.global_model.specs.Step.{late_of, moment_in, component_after, IsReady, HasStepped}
use Rattle.global_model.specs.Turn.{queue_in, queue_at, from_time, Rises, inputs_of, taken_before}
use Rattle.global_model.specs.UnderWay.{System, Stands, IsUnderWay}
use Rattle.global_model.specs.Tally.{TallyState, counted_on}
use Rattle.global_model.specs.Tallied.{AreTallied}
use Rattle.global_model.proofs.Tallied.{tallied_next}
use Rattle.global_model.specs.RunOn.{WouldStand, GoesOn, OthersFrom}
use Rattle.global_model.proofs.AfterStep.{next_place, late_after}
use Rattle.global_model.proofs.AgendaLaws.{AllDue-set}
use Rattle.global_model.proofs.FirstTimes.{starts_before}
use Rattle.global_model.proofs.Nested.{get_set_same}
use Rattle.global_model.proofs.NextMoment.{kind_within, ports_of}
use Rattle.global_model.proofs.Quiet.{clock_at, clock_past, clock_high}
use Rattle.global_model.proofs.ReactionLaws.{ticked, taking_starts}
use Rattle.global_model.proofs.RunLaws.{late_short}
use Rattle.global_model.proofs.Sending.{ready, first_to_come}
use Rattle.global_model.proofs.StartAndEnd.{few_starts, falls}
use Rattle.global_model.proofs.StepLaws.{stepped}
use Rattle.global_model.proofs.TurnLaws.{none_at, from_time-all}
use Rattle.global_model.proofs.UnderWay.{arrivals-none, IsToCome, position_order}

pub set_twice : {X : Type 0} (xs : List X) (i : ℕ) (x y : X) → slice_set (slice_set xs i x) i y ≡ slice_set xs i y
set_twice [] i x y = refl
set_twice (z ∷ zs) zero x y = refl
set_twice (z ∷ zs) (suc i) x y = ap (λ more. z ∷ more) (set_twice zs i x y)

pub set_read : {X : Type 0} (xs : List X) (i : ℕ) (x : X) → x ≡ get_or xs i x → slice_set xs i x ≡ xs
set_read xs i x is = ap (slice_set xs i) is ∙ set-get_or xs i x

-- a component that ticks on, in the components as they would be
abbrev pub goes_here : {S : Type 0} (b : Behaviour S) (c : ℕ) (components : List (Component S)) (inboxes : List (List (List Msg))) (next : ℕ) (here : Component S) → c < length components → IsSoonest (late_of (b.due here.device)) (length (b.ports here.device)) (inputs_of inboxes c) next → GoesOn b c (slice_set components c here) inboxes next
goes_here b c components inboxes next here within soonest = record { component = here; there = get_set_same components c here within; soonest = soonest }

-- the first of a time and of a due time that is cut to the latest end of a run
pub sooner_late : (t : ℕ) (due : Option ℕ) → t ≤ 10 ^ 15 → sooner t due ≡ min t (late_of due)
sooner_late t None le = omega arith
sooner_late t (Some u) le = omega arith

-- a time before anything arrives, at which there is something to do, is the due time
pub due_is : (due : Option ℕ) (n next waiting : ℕ) (queues : ℕ → List Msg) → IsSoonest (late_of due) n queues next → IsSoonest (10 ^ 15) n queues waiting → next < waiting → due ≡ Some next
due_is due n next waiting queues soonest waits lt = at due not_after soonest.at_most short
  where
    short : next < 10 ^ 15
    short = let most : waiting ≤ 10 ^ 15 = waits.at_most in omega arith

    not_after : late_of due ≤ next
    not_after = ⊎_elim (λ after. (let low : next + 1 ≤ next = soonest.low (next + 1) (omega arith) (λ p within. starts_before (next + 1) waiting (queues p) (omega arith) (waits.heads p within)) in absurd (omega arith))) (λ ok. ok) (cases_lt next (late_of due))

    at : (due : Option ℕ) → late_of due ≤ next → next ≤ late_of due → next < 10 ^ 15 → due ≡ Some next
    at None le most lt = absurd (omega arith)
    at (Some u) le most lt = let same : u ≡ next = omega arith in ap Some same

-- the first of a due time and of what waits
pub soonest_of : (late n waiting : ℕ) (queues : ℕ → List Msg) → late ≤ 10 ^ 15 → IsSoonest (10 ^ 15) n queues waiting → IsSoonest late n queues (min waiting late)
soonest_of late n waiting queues short waits = record {
  at_most = omega arith;
  heads = λ p lt. starts_before (min waiting late) waiting (queues p) (omega arith) (waits.heads p lt);
  low = λ t le heads. (let low : t ≤ waiting = waits.low t (omega arith) heads in omega arith);
}

rises_with : (v low : ℕ) (queue : List Msg) → Rises low queue → StartsFrom v queue → Rises v queue
rises_with v low [] rises starts = tt
rises_with v low (m ∷ more) rises starts = (starts, rises.1)

is_now : (due : Option ℕ) (t : ℕ) → due ≡ Some t → is_at due t ≡ true
is_now due t is = ap (λ d. is_at d t) is ∙ same t
  where
    same : (t : ℕ) → (t == t) ≡ true
    same t = grind (arith, nat_tests)

-- where nothing arrives and it is due, a device ticks
react_alone : {S : Type 0} (b : Behaviour S) (t : ℕ) (s : S) → b.due s ≡ Some t → react b t [] s ≡ b.tick s t
unfolding take_all
react_alone b t s due = ap (λ now. followed_by (rest s) (λ _. if now then b.tick s t else rest s)) (is_now (b.due s) t due)

both : (x y p n : ℕ) → ((x == y) && nat_lt p n) ≡ true → (x ≡ y) × (p < n)
both x y p n is = (first x y p n is, second x y p n is)
  where
    first : (x y p n : ℕ) → ((x == y) && nat_lt p n) ≡ true → x ≡ y
    first x y p n is = grind (arith, nat_tests)

    second : (x y p n : ℕ) → ((x == y) && nat_lt p n) ≡ true → p < n
    second x y p n is = grind (arith, nat_tests)

all_left : (u : ℕ) (queue : Option (List Msg)) → Rises u (queue_in queue) → queue ≡ option_map (from_time u) queue
all_left u None rises = refl
all_left u (Some queue) rises = ap Some (sym (from_time-all u u queue (omega arith) rises))

-- where nothing waits for a component before u, nothing is taken
pub none_taken : (u c n : ℕ) (inboxes : List (List (List Msg))) → ((p : ℕ) → p < n → Rises u (inputs_of inboxes c p)) → (e : End) → port_of inboxes e ≡ taken_before u c n (port_of inboxes) e
none_taken u c n inboxes rises e = at ((c == e.component) && nat_lt e.port n) refl
  where
    at : (here : Bool) → ((c == e.component) && nat_lt e.port n) ≡ here → port_of inboxes e ≡ (if here then option_map (from_time u) (port_of inboxes e) else port_of inboxes e)
    at false is = refl
    at true is =
        let own : (c ≡ e.component) × (e.port < n) = both c e.component e.port n is in
        all_left u (port_of inboxes e) (subst (λ d. Rises u (queue_at inboxes (end_at d e.port))) own.0 (rises e.port own.1))

-- nothing is sent
pub none_arrive : (routes : List (List (Option Route))) (c t : ℕ) (e : End) (queue : Option (List Msg)) → queue ≡ with_arrivals e (events_along routes c t []) queue
unfolding events_along
none_arrive routes c t e None = refl
none_arrive routes c t e (Some queue) = ap Some (sym (append-nil queue))

pub none_noted : (routes : List (List (Option Route))) (c t : ℕ) (agenda : List (Option ℕ)) → agenda ≡ note_all (events_along routes c t []) agenda
unfolding events_along note_all
none_noted routes c t agenda = refl

module _ {S : Type 0} {b : Behaviour S} {settled : S → ℕ → Type 0} {system : System S} {routes : List (List (Option Route))} {t c : ℕ} {components : List (Component S)} {inboxes : List (List (List Msg))} {next : ℕ} (agenda : List (Option ℕ)) (stands : WouldStand b settled system routes t c components inboxes agenda next) (n limit waiting : ℕ) (goes_on : GoesOn b c components inboxes next) (ports : n ≡ length (b.ports goes_on.component.device)) (waits : IsSoonest (10 ^ 15) n (inputs_of inboxes c) waiting) (others : OthersFrom limit c agenda) (early : next < limit) (low : limit ≤ waiting) where
  -- its moment is the first of the agenda that would be
  abbrev moment : Moment
  moment = record { at = next; component = c }

  within : c < length agenda
  within =
      let roomy : length (slice_set agenda c (Some next)) ≡ length system.starts = stands.roomy in
      let same : length (slice_set agenda c (Some next)) ≡ length agenda = length-set agenda c (Some next) in
      let in_range : c + 1 ≤ length system.starts = stands.in_range in
      omega arith

  pub is_next : IsNext moment (slice_set agenda c (Some next))
  is_next = record {
    there = get_set_same agenda c (Some next) within;
    first = AllDue-set (λ d u. clock next c d ≤ u) c next agenda (let now : clock next c c ≡ next = clock_at next c c (omega arith) in omega arith) (λ d u found ne. (let high : clock next c d ≤ next + 1 = clock_high next c d in let le : limit ≤ u = others d u (λ e. ne (sym e)) found in omega arith));
  }

  is_ready : IsReady b settled next c routes inboxes goes_on.component
  is_ready = ready stands is_next goes_on.component goes_on.there

  pub settled_next : settled goes_on.component.device (next + 1)
  settled_next = is_ready.settled_then

  soonest_here : IsSoonest (late_of (b.due goes_on.component.device)) n (inputs_of inboxes c) next
  soonest_here = subst (λ k. IsSoonest (late_of (b.due goes_on.component.device)) k (inputs_of inboxes c) next) (sym ports) goes_on.soonest

  pub due_next : b.due goes_on.component.device ≡ Some next
  due_next = due_is (b.due goes_on.component.device) n next waiting (inputs_of inboxes c) soonest_here waits (omega arith)

  pub in_run : next < 10 ^ 15
  in_run = let most : waiting ≤ 10 ^ 15 = waits.at_most in omega arith

  rises_on : (p : ℕ) → p < length (b.ports goes_on.component.device) → Rises (next + 1) (inputs_of inboxes c p)
  rises_on p lt = rises_with (next + 1) next (inputs_of inboxes c p) (is_ready.waits.waits p lt).rises (starts_before (next + 1) waiting (inputs_of inboxes c p) (omega arith) (waits.heads p (subst (λ k. p < k) (sym ports) lt)))

  moment_is : moment_in b next c inboxes goes_on.component.device ≡ b.tick goes_on.component.device next
  moment_is =
      ap (λ xs. react b next xs goes_on.component.device) (arrivals-none next (length (b.ports goes_on.component.device)) (inputs_of inboxes c) (λ p lt. none_at next (next + 1) (inputs_of inboxes c p) (omega arith) (rises_on p lt)))
      ∙ react_alone b next goes_on.component.device due_next

  whole_tick : IsMoment b settled goes_on.component.device next (b.tick goes_on.component.device next)
  whole_tick = ticked stands.lawful goes_on.component.device next (rest goes_on.component.device) in_run (taking_starts stands.lawful goes_on.component.device next settled_next (subst (λ due. IfSome due (λ d. next ≤ d)) (sym due_next) (omega arith))) due_next

  pub whole : IsMoment b settled goes_on.component.device next (moment_in b next c inboxes goes_on.component.device)
  whole = subst (λ (r : Reaction S). IsMoment b settled goes_on.component.device next r) (sym moment_is) whole_tick

  pub left : (e : End) → port_of inboxes e ≡ taken_before (next + 1) c (length (b.ports goes_on.component.device)) (port_of inboxes) e
  left e = none_taken (next + 1) c (length (b.ports goes_on.component.device)) inboxes rises_on e

  pub ready_next : IsReady b settled next c routes inboxes goes_on.component
  ready_next = is_ready

  pub later_than : t + 1 ≤ next
  later_than =
      let to_come : clock t (c + 1) c ≤ next = stands.to_come c next (get_set_same agenda c (Some next) within) in
      let past : clock t (c + 1) c ≡ t + 1 = clock_past t (c + 1) c (omega arith) in
      omega arith

  module _ (here turned : Component S) (sends : List (ℕ × Body)) (same : here ≡ goes_on.component) (device_is : turned.device ≡ (b.tick here.device next).state) (log_is : turned.log ≡ here.log ++ logged_at next (b.tick here.device next).lines) (sent_is : sends ≡ (b.tick here.device next).sends) where
    device : turned.device ≡ (b.tick goes_on.component.device next).state
    device = device_is ∙ ap (λ (x : Component S). (b.tick x.device next).state) same

    log : turned.log ≡ goes_on.component.log ++ logged_at next (b.tick goes_on.component.device next).lines
    log = log_is ∙ ap (λ (x : Component S). x.log ++ logged_at next (b.tick x.device next).lines) same

    sent : sends ≡ (b.tick goes_on.component.device next).sends
    sent = sent_is ∙ ap (λ (x : Component S). (b.tick x.device next).sends) same

    pub may_send : All (λ (sent : ℕ × Body). MaySend (b.ports goes_on.component.device) sent.0 sent.1) sends
    may_send = subst (λ xs. All (λ (sent : ℕ × Body). MaySend (b.ports goes_on.component.device) sent.0 sent.1) xs) (sym sent) whole_tick.sendable

    pub ports_after : n ≡ length (b.ports turned.device)
    ports_after = ports ∙ ap length (sym whole_tick.same_ports) ∙ ap (λ s. length (b.ports s)) (sym device)

    module _ (inboxes2 : List (List (List Msg))) (agenda2 : List (Option ℕ)) (late soon : ℕ) (arrives : (e : End) → port_of inboxes2 e ≡ with_arrivals e (events_along routes c next sends) (port_of inboxes e)) (noted : agenda2 ≡ note_all (events_along routes c next sends) (slice_set agenda c (Some next))) (late_is : late ≡ late_of (b.due turned.device)) (soonest : IsSoonest late n (inputs_of inboxes2 c) soon) where
      has_ticked : HasStepped b settled next c routes goes_on.component components inboxes (slice_set agenda c (Some next)) (slice_set components c turned) inboxes2 agenda2 soon
      has_ticked = stepped next c routes goes_on.component components inboxes (slice_set agenda c (Some next)) turned sends inboxes inboxes2 late soon agenda2
          (device ∙ ap (λ (r : Reaction S). r.state) (sym moment_is))
          (log ∙ ap (λ (r : Reaction S). goes_on.component.log ++ logged_at next r.lines) (sym moment_is))
          (sent ∙ ap (λ (r : Reaction S). r.sends) (sym moment_is))
          left whole arrives noted late_is
          (subst (λ k. IsSoonest late k (inputs_of inboxes2 c) soon) ports soonest)

      pub ticks_on : (agenda3 : List (Option ℕ)) → slice_set agenda3 c (Some soon) ≡ slice_set agenda2 c (Some soon) → next < system.end → WouldStand b settled system routes next c (slice_set components c turned) inboxes2 agenda3 soon
      ticks_on agenda3 set before_end = next_place stands is_next goes_on.component goes_on.there has_ticked set before_end

      pub tallied_on : (agenda3 : List (Option ℕ)) → slice_set agenda3 c (Some soon) ≡ slice_set agenda2 c (Some soon) → (tallies tallies2 : List TallyState) → ((k : ℕ) → slice_get tallies2 k ≡ counted_on k routes c next sends (slice_get tallies k)) → AreTallied b system t (c + 1) tallies → AreTallied b system next (c + 1) tallies2
      tallied_on agenda3 set tallies tallies2 counted tallied = tallied_next stands tallies tallied is_next goes_on.component goes_on.there has_ticked set tallies2 (λ k. counted k ∙ ap (λ xs. counted_on k routes c next xs (slice_get tallies k)) (sent ∙ ap (λ (r : Reaction S). r.sends) (sym moment_is)))

    -- nothing was sent
    module _ (late soon : ℕ) (late_is : late ≡ late_of (b.due turned.device)) (soon_is : soon ≡ min waiting late) (silent : sends ≡ []) where
      short : late ≤ 10 ^ 15
      short = subst (λ k. k ≤ 10 ^ 15) (sym late_is) (late_short (b.due turned.device))

      pub silent_soonest : IsSoonest late n (inputs_of inboxes c) soon
      silent_soonest = subst (λ k. IsSoonest late n (inputs_of inboxes c) k) (sym soon_is) (soonest_of late n waiting (inputs_of inboxes c) short waits)

      pub silent_later : next < soon
      silent_later =
          let due_later : next + 1 ≤ late_of (b.due turned.device) = late_after next (b.due turned.device) in_run (subst (λ s. IfSome (b.due s) (λ u. next < u)) (sym device) whole_tick.later) in
          let same_late : late ≡ late_of (b.due turned.device) = late_is in
          let same_soon : soon ≡ min waiting late = soon_is in
          omega arith

      silent_arrives : (e : End) → port_of inboxes e ≡ with_arrivals e (events_along routes c next sends) (port_of inboxes e)
      silent_arrives e = none_arrive routes c next e (port_of inboxes e) ∙ ap (λ xs. with_arrivals e (events_along routes c next xs) (port_of inboxes e)) (sym silent)

      silent_noted : slice_set agenda c (Some next) ≡ note_all (events_along routes c next sends) (slice_set agenda c (Some next))
      silent_noted = none_noted routes c next (slice_set agenda c (Some next)) ∙ ap (λ xs. note_all (events_along routes c next xs) (slice_set agenda c (Some next))) (sym silent)

      pub silent_on : next < system.end → WouldStand b settled system routes next c (slice_set components c turned) inboxes agenda soon
      silent_on before_end = ticks_on inboxes (slice_set agenda c (Some next)) late soon silent_arrives silent_noted late_is silent_soonest agenda (sym (set_twice agenda c (Some next) (Some soon))) before_end

      silent_counted : (tallies : List TallyState) (k : ℕ) → slice_get tallies k ≡ counted_on k routes c next sends (slice_get tallies k)
      unfolding counted_on
      silent_counted tallies k = ap (λ xs. counted_on k routes c next xs (slice_get tallies k)) (sym silent)

      pub silent_tallied : (tallies : List TallyState) → AreTallied b system t (c + 1) tallies → AreTallied b system next (c + 1) tallies
      silent_tallied tallies tallied = tallied_on inboxes (slice_set agenda c (Some next)) late soon silent_arrives silent_noted late_is silent_soonest agenda (sym (set_twice agenda c (Some next) (Some soon))) tallies tallies (silent_counted tallies) tallied

      abbrev pub silent_further : GoesOn b c (slice_set components c turned) inboxes soon
      silent_further = record {
        component = turned;
        there = get_set_same components c turned (slice_get_within components c goes_on.component goes_on.there);
        soonest = subst (λ k. IsSoonest k (length (b.ports turned.device)) (inputs_of inboxes c) soon) late_is (subst (λ k. IsSoonest late k (inputs_of inboxes c) soon) ports_after silent_soonest);
      }

-- after a step the component goes on
pub steps_on : {S : Type 0} {b : Behaviour S} {settled : S → ℕ → Type 0} {t c : ℕ} {routes : List (List (Option Route))} {component : Component S} {components : List (Component S)} {inboxes : List (List (List Msg))} {agenda : List (Option ℕ)} {components' : List (Component S)} {inboxes' : List (List (List Msg))} {agenda' : List (Option ℕ)} {next : ℕ} → slice_get components c ≡ Some component → HasStepped b settled t c routes component components inboxes agenda components' inboxes' agenda' next → GoesOn b c components' inboxes' next
steps_on {b = b} {t = t} {c = c} {component = component} {components = components} {inboxes = inboxes} {inboxes' = inboxes'} {next = next} is after_it = record {
  component = component_after t component (moment_in b t c inboxes component.device);
  there = ap (λ xs. slice_get xs c) after_it.components_are ∙ get_set_same components c (component_after t component (moment_in b t c inboxes component.device)) (slice_get_within components c component is);
  soonest = subst (λ ports. IsSoonest (late_of (b.due (moment_in b t c inboxes component.device).state)) (length ports) (inputs_of inboxes' c) next) (sym after_it.whole.same_ports) after_it.soonest;
}

-- the measure of the run falls also where a component runs on
pub nearer_on : {S : Type 0} {b : Behaviour S} {settled : S → ℕ → Type 0} {end : ℕ} {kinds : List (List PortKind)} {links : List Link} {starts : List S} {routes : List (List (Option Route))} {t c : ℕ} {components : List (Component S)} {inboxes : List (List (List Msg))} {m : Moment} {agenda : List (Option ℕ)} (under_way : IsUnderWay b settled end kinds links starts routes t c components inboxes agenda) → IsNext m agenda → (until last time : ℕ) → time ≡ last → m.at ≤ last → last < until → (until - time) * 64 + (64 - (m.component + 1)) < (until - t) * 64 + (64 - c)
nearer_on {starts = starts} {t = t} {c = c} {m = m} under_way next until last time is later before =
    let first : IsToCome t c (length starts) m = first_to_come under_way next in
    let few : length starts ≤ 64 = few_starts under_way in
    let below : m.component < length starts = first.in_range in
    let not_before : clock t c m.component ≤ m.at = first.not_before in
    let reaches : clock t c m.component ≤ last = omega arith in
    subst (λ n. (until - n) * 64 + (64 - (m.component + 1)) < (until - t) * 64 + (64 - c)) (sym is) (falls until t c last m.component before (omega arith) (position_order t c last m.component reaches))

-- its ports have inboxes
pub ports_there : {S : Type 0} {b : Behaviour S} {settled : S → ℕ → Type 0} {system : System S} {routes : List (List (Option Route))} {t : ℕ} {components : List (Component S)} {inboxes : List (List (List Msg))} (c : ℕ) (agenda : List (Option ℕ)) (next : ℕ) → WouldStand b settled system routes t c components inboxes agenda next → (component : Component S) → slice_get components c ≡ Some component → (p : ℕ) → p < length (b.ports component.device) → IsSome (port_of inboxes (end_at c p))
ports_there {b = b} {system = system} c agenda next stands component is p lt = subst (λ o. IsSome o) (sym (stands.queues (end_at c p) (kind_within system.kinds (end_at c p) (b.ports component.device) (ports_of stands c component is) lt))) refl

pub others_sooner : (x t c : ℕ) (dues : List (Option ℕ)) → x ≤ t → OthersFrom t c dues → OthersFrom x c dues
others_sooner x t c dues le others d u ne found = let low : t ≤ u = others d u ne found in omega arith

-- the agenda has what it would have
pub placed : {S : Type 0} {b : Behaviour S} {settled : S → ℕ → Type 0} {system : System S} {routes : List (List (Option Route))} {t : ℕ} {components : List (Component S)} {inboxes : List (List (List Msg))} (c : ℕ) (agenda : List (Option ℕ)) (next : ℕ) → WouldStand b settled system routes t c components inboxes agenda next → (t' : ℕ) (agenda' : List (Option ℕ)) → t' ≡ t → agenda' ≡ slice_set agenda c (Some next) → Stands b settled system routes t' (c + 1) components inboxes agenda'
placed {b = b} {settled = settled} {system = system} {routes = routes} {t = t} {components = components} {inboxes = inboxes} c agenda next stands t' agenda' time is = subst (λ u. Stands b settled system routes u (c + 1) components inboxes agenda') (sym time) (subst (λ xs. Stands b settled system routes t (c + 1) components inboxes xs) (sym is) stands)

pub lt_of : (x y : ℕ) → true ≡ is_lt (nat_cmp x y) → x < y
lt_of x y is = grind (arith, nat_tests)

pub falls_on : (limit next next' : ℕ) → next < limit → next < next' → limit - next' < limit - next
falls_on limit next next' early later = omega arith
