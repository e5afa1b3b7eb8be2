-- The start of a run, and its end.
use Rattle.std.specs.Prelude.{ℕ, ◌≡◌, ◌+◌, ◌-◌, ◌*◌, ◌≤◌, ◌<◌, ◌^◌, true, false, List, [], ◌∷◌, length, map, slice_get, slice_set, Option, Some, None, IsSome, IfSome, Result, Ok, Err, IfOk, All, refl, ◌⊎◌}
use Rattle.std.proofs.lemmas.Bool.{cases_lt}
use Rattle.std.proofs.lemmas.Bool.Decides.{nat_tests}
use Rattle.std.proofs.lemmas.List.{length-map}
use Rattle.std.proofs.lemmas.List.Elements.{All-nil}
use Rattle.std.proofs.lemmas.Option.{slice_get-map, slice_get_within}
use Rattle.std.proofs.Common.{sym, ap, ◌∙◌, arith, subst, inl, ⊎_elim}
use Rattle.cs_base.specs.declared.link.Link.{Link}
use Rattle.cs_base.specs.declared.port_kind.PortKind.{PortKind}
use Rattle.cs_base.specs.Plan.{End, kind_at, IsPlan}
use Rattle.sb_message.specs.declared.message.Msg.{Msg}
use Rattle.device_api.specs.declared.component.Component.{Component}
use Rattle.device_api.specs.Behaviour.{Behaviour, IsLawful}
use Rattle.device_api.specs.World.{slot, start_run, global_until, logs_of}
use Rattle.moment_tree.specs.declared.agenda.Moment.{Moment}
use Rattle.moment_tree.specs.Places.{clock}
use Rattle.global_model.specs.declared.routes.Route.{Route}
use Rattle.global_model.specs.Agenda.{has, IsNext}
use Rattle.global_model.specs.Inboxes.{port_of}
use Rattle.global_model.specs.Routes.{route_from}
use Rattle.global_model.specs.Step.{network, late_of}
use Rattle.global_model.specs.Turn.{queue_in, queue_at}
use Rattle.global_model.specs.UnderWay.{IsHere, IsBox, component_of, IsUnderWay}
use Rattle.std.proofs.lemmas.Option.{get_or_from_slice_get}
use Rattle.std.specs.Ordering.{is_le, nat_cmp}
use Rattle.std.proofs.lemmas.Map.Keys.{le_from_is_le}
use Rattle.global_model.proofs.AgendaLaws.{least, has_some, has-set, has-set_other}
use Rattle.global_model.proofs.UnderWay.{IsToCome, option_some, if_some_weaker, position_order}
use Rattle.global_model.proofs.NextMoment.{kind_within}
use Rattle.global_model.proofs.AfterStep.{late_before}
use Rattle.global_model.proofs.Quiet.{clock_at, clock_low, moment_begins}
use Rattle.global_model.proofs.Sending.{first_to_come}

map_map : {X Y Z : Type 0} (f : X → Y) (g : Y → Z) (xs : List X) → map g (map f xs) ≡ map (λ x. g (f x)) xs
map_map f g [] = refl
map_map f g (x ∷ xs) = ap (λ ys. g (f x) ∷ ys) (map_map f g xs)

All_at : {X : Type 0} (P : X → Type 0) (xs : List X) (i : ℕ) (x : X) → All P xs → slice_get xs i ≡ Some x → P x
All_at P xs i x all is = subst P (get_or_from_slice_get xs i x x is) (all i x (slice_get_within xs i x is))

abbrev fresh : {S : Type 0} → S → Component S
fresh device = record { device = device; log = [] }

pub under_way_starts : {S : Type 0} {b : Behaviour S} {settled : S → ℕ → Type 0} {end : ℕ} {kinds : List (List PortKind)} {links : List Link} (starts : List S) {routes : List (List (Option Route))} (components : List (Component S)) (inboxes : List (List (List Msg))) (agenda : List (Option ℕ)) → IsLawful b settled → IsPlan end kinds links → map b.ports starts ≡ kinds → All (λ s. settled s 0) starts → ((e : End) → IsSome (kind_at kinds e) → port_of routes e ≡ Some (route_from links e)) → components ≡ map (λ device. record { device = device; log = [] }) starts → ((e : End) → IsSome (kind_at kinds e) → port_of inboxes e ≡ Some []) → ((d : ℕ) (component : Component S) → slice_get components d ≡ Some component → IfSome (b.due component.device) (λ u. has u d agenda ≡ true)) → length agenda ≡ length components → IsUnderWay b settled end kinds links starts routes 0 0 components inboxes agenda
unfolding slot global_until
under_way_starts {S} {b} {settled} {end} {kinds} {links} starts {routes} components inboxes agenda lawful plan matches at_start routed components_are empty noted roomy = record {
  lawful = lawful;
  plan = plan;
  matches = matches;
  routed = routed;
  within = inl (let some : 1 ≤ end = plan.sized.some_time in omega arith);
  in_range = omega arith;
  components_are = components_are ∙ sym (map_map start_run component_of starts);
  ports_same = ap (map (λ (x : Component S). b.ports x.device)) components_are ∙ map_map fresh (λ (x : Component S). b.ports x.device) starts ∙ matches;
  queues = λ e there. empty e there;
  boxes = λ e ports is lt. (let none : queue_at inboxes e ≡ [] = ap queue_in (empty e (there_at e ports is lt)) in subst (IsBox links agenda ports e 0 (clock 0 0 e.component)) (sym none) (record { rises = tt; here = All-nil (IsHere links agenda ports e 0) }));
  awake = λ d component is. (let found : (s : S) × (slice_get starts d ≡ Some s) × (record { device = s; log = [] } ≡ component) = option_some fresh (slice_get starts d) component (sym (slice_get-map fresh starts d) ∙ ap (λ xs. slice_get xs d) (sym components_are) ∙ is) in record { settled_then = (lawful.at component.device).settled_later 0 (0 + 1) (subst (λ (x : Component S). settled x.device 0) found.2 (All_at (λ s. settled s 0) starts d found.0 at_start found.1)) (omega arith); due_noted = noted d component is });
  roomy = roomy ∙ ap length components_are ∙ length-map starts fresh;
  to_come = λ d u found. (let begins : clock 0 0 d ≡ 0 = clock_at 0 0 d (omega arith) in omega arith);
}
  where
    there_at : (e : End) (ports : List PortKind) → slice_get kinds e.component ≡ Some ports → e.port < length ports → IsSome (kind_at kinds e)
    there_at e ports is lt = kind_within kinds e ports is lt

-- the components and the logs of a run that stands at t are those of the global run
module _ {S : Type 0} {b : Behaviour S} {settled : S → ℕ → Type 0} {end : ℕ} {kinds : List (List PortKind)} {links : List Link} {starts : List S} {routes : List (List (Option Route))} {t : ℕ} {components : List (Component S)} {inboxes : List (List (List Msg))} {agenda : List (Option ℕ)} (under_way : IsUnderWay b settled end kinds links starts routes t 0 components inboxes agenda) where
  pub components_there : components ≡ map component_of (global_until (network b starts links) t).runs
  components_there = under_way.components_are ∙ ap (λ w. map component_of w.runs) (moment_begins (network b starts links) t)

  pub logs_there : map (λ (x : Component S). x.log) components ≡ logs_of (global_until (network b starts links) t)
  logs_there = ap (map (λ (x : Component S). x.log)) components_there ∙ map_map component_of (λ (x : Component S). x.log) (global_until (network b starts links) t).runs

-- where no moment of the agenda is before a time
pub none_left : (until : ℕ) (agenda : List (Option ℕ)) → All (λ (due : Option ℕ). due ≡ None) agenda → (u d : ℕ) → has u d agenda ≡ true → until ≤ u
none_left until agenda none u d there =
    let found : (w : ℕ) × (slice_get agenda d ≡ Some (Some w)) × (w ≤ u) = has_some u d agenda there in
    let no_time : Some found.0 ≡ None = All_at (λ (due : Option ℕ). due ≡ None) agenda d (Some found.0) none found.1 in
    absurd cc

pub late_left : (until : ℕ) (m : Moment) (agenda : List (Option ℕ)) → IsNext m agenda → until ≤ m.at → (u d : ℕ) → has u d agenda ≡ true → until ≤ u
late_left until m agenda next late u d there =
    let after_first : clock m.at m.component d ≤ u = least next u d there in
    let low : m.at ≤ clock m.at m.component d = clock_low m.at m.component d in
    omega arith

-- each step comes nearer to the end
pub falls : (end t c t' c' : ℕ) → t' < end → c' < 64 → (t < t') ⊎ ((t ≡ t') × (c ≤ c')) → (end - t') * 64 + (64 - (c' + 1)) < (end - t) * 64 + (64 - c)
falls end t c t' c' before few order = ⊎_elim (λ lt. omega arith) (λ e. (let same : t ≡ t' = e.0 in let le : c ≤ c' = e.1 in omega arith)) order

pub if_ok_weaker : {T E : Type 0} (r : Result T E) (P Q : T → Type 0) → ((x : T) → P x → Q x) → IfOk r P → IfOk r Q
if_ok_weaker (Ok x) P Q f p = f x p
if_ok_weaker (Err e) P Q f p = tt

pub not_le : (x y : ℕ) → false ≡ is_le (nat_cmp x y) → y < x
not_le x y is = grind (arith, nat_tests)

pub is_not_less : (x y : ℕ) → true ≡ is_le (nat_cmp x y) → x ≤ y
is_not_less x y is = le_from_is_le x y (sym is)

module _ {S : Type 0} {b : Behaviour S} {settled : S → ℕ → Type 0} {end : ℕ} {kinds : List (List PortKind)} {links : List Link} {starts : List S} {routes : List (List (Option Route))} {t c : ℕ} {components : List (Component S)} {inboxes : List (List (List Msg))} {agenda : List (Option ℕ)} (under_way : IsUnderWay b settled end kinds links starts routes t c components inboxes agenda) where
  pub with_time : (t' : ℕ) → t' ≡ t → IsUnderWay b settled end kinds links starts routes t' c components inboxes agenda
  with_time t' is = subst (λ u. IsUnderWay b settled end kinds links starts routes u c components inboxes agenda) (sym is) under_way

  pub few_starts : length starts ≤ 64
  few_starts = let few : length kinds ≤ 64 = under_way.plan.sized.few_components in let many : length kinds ≡ length starts = ap length (sym under_way.matches) ∙ length-map starts b.ports in omega arith

  pub in_run : (u : ℕ) → u < end → u < 10 ^ 15
  in_run u lt = let short : end ≤ 10 ^ 15 = under_way.plan.sized.short_time in omega arith

-- the loop's measure falls
pub nearer : {S : Type 0} {b : Behaviour S} {settled : S → ℕ → Type 0} {end : ℕ} {kinds : List (List PortKind)} {links : List Link} {starts : List S} {routes : List (List (Option Route))} {t c : ℕ} {components : List (Component S)} {inboxes : List (List (List Msg))} {m : Moment} {agenda : List (Option ℕ)} (under_way : IsUnderWay b settled end kinds links starts routes t c components inboxes agenda) → IsNext m agenda → (until time : ℕ) → time ≡ m.at → m.at < until → (until - time) * 64 + (64 - (m.component + 1)) < (until - t) * 64 + (64 - c)
nearer {starts = starts} {t = t} {c = c} {m = m} under_way next until time is before =
    let first : IsToCome t c (length starts) m = first_to_come under_way next in
    let few : length starts ≤ 64 = few_starts under_way in
    let below : m.component < length starts = first.in_range in
    subst (λ n. (until - n) * 64 + (64 - (m.component + 1)) < (until - t) * 64 + (64 - c)) (sym is) (falls until t c m.at m.component before (omega arith) (position_order t c m.at m.component first.not_before))

pub few_turns : {S : Type 0} {b : Behaviour S} {settled : S → ℕ → Type 0} {end : ℕ} {kinds : List (List PortKind)} {links : List Link} {starts : List S} {routes : List (List (Option Route))} {t c : ℕ} {components : List (Component S)} {inboxes : List (List (List Msg))} {m : Moment} {agenda : List (Option ℕ)} (under_way : IsUnderWay b settled end kinds links starts routes t c components inboxes agenda) → IsNext m agenda → m.component < 64
few_turns {starts = starts} {m = m} under_way next =
    let few : length starts ≤ 64 = few_starts under_way in
    let below : m.component < length starts = (first_to_come under_way next).in_range in
    omega arith

-- the agenda of the first components, and of one more
pub noted_more : {S : Type 0} (b : Behaviour S) (components : List (Component S)) (i : ℕ) (x : Component S) (due : Option ℕ) (at : ℕ) (agenda agenda' : List (Option ℕ)) → slice_get components i ≡ Some x → due ≡ b.due x.device → at ≡ late_of due → i < length agenda → agenda' ≡ slice_set agenda i (Some at) → ((d : ℕ) (component : Component S) → d < i → slice_get components d ≡ Some component → IfSome (b.due component.device) (λ u. has u d agenda ≡ true)) → (d : ℕ) (component : Component S) → d < i + 1 → slice_get components d ≡ Some component → IfSome (b.due component.device) (λ u. has u d agenda' ≡ true)
noted_more {S} b components i x due at agenda agenda' read due_is late within new before d component lt is = subst (λ xs. IfSome (b.due component.device) (λ u. has u d xs ≡ true)) (sym new) (⊎_elim earlier last (cases_lt d i))
  where
    earlier : d < i → IfSome (b.due component.device) (λ u. has u d (slice_set agenda i (Some at)) ≡ true)
    earlier below = if_some_weaker (λ u. has u d agenda ≡ true) (λ u. has u d (slice_set agenda i (Some at)) ≡ true) (b.due component.device) (λ u there. has-set_other u i d (Some at) agenda (λ e. omega arith) ∙ there) (before d component below is)

    last : i ≤ d → IfSome (b.due component.device) (λ u. has u d (slice_set agenda i (Some at)) ≡ true)
    last over =
        let here : d ≡ i = omega arith in
        let both : Some component ≡ Some x = sym is ∙ subst (λ n. slice_get components n ≡ Some x) (sym here) read in
        let same : component ≡ x = cc in
        let is_due : b.due component.device ≡ due = ap (λ (y : Component S). b.due y.device) same ∙ sym due_is in
        let le : at ≤ late_of (b.due component.device) = subst (λ o. at ≤ late_of o) (sym is_due) (omega arith) in
        if_some_weaker (λ u. at ≤ u) (λ u. has u d (slice_set agenda i (Some at)) ≡ true) (b.due component.device) (λ u low. subst (λ n. has u n (slice_set agenda i (Some at)) ≡ true) (sym here) (has-set u i at agenda within low)) (late_before (b.due component.device) at le)
