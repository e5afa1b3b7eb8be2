-- What a component sends arrives later, at a port that may receive it.
use Rattle.std.specs.Prelude.{ℕ, ◌≡◌, ◌+◌, ◌≤◌, ◌<◌, ◌^◌, true, List, [], ◌∷◌, ◌++◌, length, slice_get, Option, Some, None, IsSome, is_some, All, option_map, option_and_then, refl}
use Rattle.std.proofs.lemmas.Bool.{false≢true}
use Rattle.std.proofs.lemmas.List.{length-map}
use Rattle.std.proofs.lemmas.List.Elements.{All-nil, All-cons, All-head, All-tail, All-append, All-weaker}
use Rattle.std.proofs.lemmas.Option.{slice_get_within}
use Rattle.std.proofs.Common.{sym, ap, ◌∙◌, arith, subst}
use Rattle.cs_base.specs.declared.link.Link.{Link}
use Rattle.cs_base.specs.declared.port_kind.PortKind.{PortKind}
use Rattle.cs_base.specs.Plan.{End, kind_at, partner, IsPlan, uses_of}
use Rattle.sb_message.specs.declared.message.Body.{Body}
use Rattle.sb_message.specs.declared.message.Msg.{Msg}
use Rattle.sb_message.specs.Receivable.{MayReceive, MaySend, receivable, is_event}
use Rattle.device_api.specs.Behaviour.{Behaviour}
use Rattle.device_api.specs.Channels.{Channel, channels}
use Rattle.device_api.specs.World.{Event, Sent, out_of, sent_at, event_on, events_of}
use Rattle.moment_tree.specs.declared.agenda.Moment.{Moment}
use Rattle.device_api.specs.declared.component.Component.{Component}
use Rattle.moment_tree.specs.Places.{clock}
use Rattle.global_model.specs.declared.routes.Route.{Route}
use Rattle.global_model.specs.Agenda.{has, IsNext}
use Rattle.global_model.specs.Inboxes.{port_of, end_at}
use Rattle.global_model.specs.Post.{event_along, events_along, IsRouted}
use Rattle.global_model.proofs.Quiet.{clock_at, clock_low}
use Rattle.global_model.specs.Routes.{number_out, route_along, route_from}
use Rattle.global_model.specs.Step.{IsReady}
use Rattle.global_model.specs.Turn.{queue_at, Rises}
use Rattle.global_model.proofs.Ways.{IsWay, way_out, latency_way}
use Rattle.global_model.specs.UnderWay.{latency_at, IsHere, IsAwake, IsUnderWay}
use Rattle.global_model.proofs.AgendaLaws.{least}
use Rattle.global_model.proofs.UnderWay.{IsToCome, get_some, option_some, if_some_weaker}
use Rattle.global_model.proofs.NextMoment.{ports_of, box_rises, kind_within}

-- an event that was sent at t
pub record IsSent (kinds : List (List PortKind)) (links : List Link) (t : ℕ) (event : Event) : Type 0 where
  pub later : t + 1 ≤ event.time
  pub stamped : event.time ≡ t + latency_at links event.to
  pub kind : PortKind
  pub at_port : kind_at kinds event.to ≡ Some kind
  pub fits : receivable kind event.body ≡ true
  pub is_event : is_event event.body ≡ true

abbrev pub AreRoutes : List (List (Option Route)) → List Link → ℕ → ℕ → Type 0
AreRoutes routes links c count = (p : ℕ) → p < count → port_of routes (end_at c p) ≡ Some (route_from links (end_at c p))

-- the events along the routes are those of the channels
pub events_same : (routes : List (List (Option Route))) (links : List Link) (c t : ℕ) (ports : List PortKind) (sends : List (ℕ × Body)) (before : List Sent) → AreRoutes routes links c (length ports) → All (λ (sent : ℕ × Body). MaySend ports sent.0 sent.1) sends → events_along routes c t sends ≡ events_of (channels links) c before (sent_at t sends)
unfolding events_along events_of
events_same routes links c t ports [] before routed may = refl
events_same routes links c t ports (sent ∷ more) before routed may =
    let first : MaySend ports sent.0 sent.1 = All-head (λ (x : ℕ × Body). MaySend ports x.0 x.1) sent more may in
    let s : Sent = record { time = t; port = sent.0; body = sent.1 } in
    let here : event_along (port_of routes (end_at c sent.0)) t sent.1 ≡ event_on before s (out_of (channels links) (end_at c sent.0)) =
    ap (λ r. event_along r t sent.1) (routed sent.0 (slice_get_within ports sent.0 first.kind first.at_port)) ∙ along before s (number_out (channels links) (end_at c sent.0)) (out_of (channels links) (end_at c sent.0)) in
    ap (λ xs. xs ++ events_along routes c t more) here
    ∙ ap (λ xs. event_on before s (out_of (channels links) (end_at c sent.0)) ++ xs) (events_same routes links c t ports more (before ++ s ∷ []) routed (All-tail (λ (x : ℕ × Body). MaySend ports x.0 x.1) sent more may))
  where
    along : (before : List Sent) (s : Sent) (k : ℕ) (found : Option Channel) → event_along (Some (option_map (route_along k) found)) s.time s.body ≡ event_on before s found
    along before s k None = refl
    along before s k (Some ch) = refl

module _ (end : ℕ) (kinds : List (List PortKind)) (links : List Link) (plan : IsPlan end kinds links) where
  -- a send's event, if there is one
  event_sent : (from : End) (k : PortKind) (t : ℕ) (body : Body) → kind_at kinds from ≡ Some k → receivable (partner k) body ≡ true → is_event body ≡ true → All (IsSent kinds links t) (event_along (Some (route_from links from)) t body)
  event_sent from k t body kind fits event = at (out_of (channels links) from) refl
    where
      at : (found : Option Channel) → out_of (channels links) from ≡ found → All (IsSent kinds links t) (event_along (Some (option_map (route_along (number_out (channels links) from)) found)) t body)
      at None is = All-nil (IsSent kinds links t)
      at (Some ch) is =
          let way : IsWay kinds from ch = way_out kinds links from ch plan.links_join is in
          let to_kind : kind_at kinds ch.to ≡ Some (partner k) = way.to_partner ∙ ap (option_map partner) kind in
          let there : is_some (kind_at kinds ch.to) ≡ true = ap is_some to_kind in
          let once : uses_of links ch.to ≡ 1 = plan.in_one_link ch.to there in
          let latency : ch.latency ≡ latency_at links ch.to = latency_way links from ch (omega arith) is in
          let some : 1 ≤ ch.latency = way.some_latency in
          let sent : IsSent kinds links t (record { time = t + ch.latency; to = ch.to; body = body }) = record { later = omega arith; stamped = ap (λ x. t + x) latency; kind = partner k; at_port = to_kind; fits = fits; is_event = event } in
          All-cons (IsSent kinds links t) (record { time = t + ch.latency; to = ch.to; body = body }) [] sent (All-nil (IsSent kinds links t))

  pub events_sent : (routes : List (List (Option Route))) (c t : ℕ) (ports : List PortKind) (sends : List (ℕ × Body)) → slice_get kinds c ≡ Some ports → AreRoutes routes links c (length ports) → All (λ (sent : ℕ × Body). MaySend ports sent.0 sent.1) sends → All (IsSent kinds links t) (events_along routes c t sends)
  unfolding events_along
  events_sent routes c t ports [] is routed may = All-nil (IsSent kinds links t)
  events_sent routes c t ports (sent ∷ more) is routed may =
      let first : MaySend ports sent.0 sent.1 = All-head (λ (x : ℕ × Body). MaySend ports x.0 x.1) sent more may in
      let kind : kind_at kinds (end_at c sent.0) ≡ Some first.kind = ap (option_and_then (λ xs. slice_get xs sent.0)) is ∙ first.at_port in
      let here : All (IsSent kinds links t) (event_along (port_of routes (end_at c sent.0)) t sent.1) = subst (λ r. All (IsSent kinds links t) (event_along r t sent.1)) (sym (routed sent.0 (slice_get_within ports sent.0 first.kind first.at_port))) (event_sent (end_at c sent.0) first.kind t sent.1 kind first.fits first.event) in
      All-append (IsSent kinds links t) (event_along (port_of routes (end_at c sent.0)) t sent.1) (events_along routes c t more) here (events_sent routes c t ports more is routed (All-tail (λ (x : ℕ × Body). MaySend ports x.0 x.1) sent more may))

module _ {S : Type 0} {b : Behaviour S} {settled : S → ℕ → Type 0} {end : ℕ} {kinds : List (List PortKind)} {links : List Link} {starts : List S} {routes : List (List (Option Route))} {t c : ℕ} {components : List (Component S)} {inboxes : List (List (List Msg))} {m : Moment} {agenda : List (Option ℕ)} (under_way : IsUnderWay b settled end kinds links starts routes t c components inboxes agenda) (next : IsNext m agenda) where
  pub first_to_come : IsToCome t c (length starts) m
  first_to_come = record { not_before = under_way.to_come m.component m.at next.there; in_range = subst (λ n. m.component < n) under_way.roomy (slice_get_within agenda m.component (Some m.at) next.there) }

  pub no_earlier : t ≤ m.at
  no_earlier = let low : t ≤ clock t c m.component = clock_low t c m.component in let at : clock t c m.component ≤ m.at = first_to_come.not_before in omega arith

  pub as_many : length components ≡ length starts
  as_many = sym (length-map components (λ (x : Component S). b.ports x.device)) ∙ ap length under_way.ports_same ∙ ap length (sym under_way.matches) ∙ length-map starts b.ports

  -- the component whose turn it is
  pub the_component : (component : Component S) × (slice_get components m.component ≡ Some component)
  the_component = get_some components m.component (let below : m.component < length starts = first_to_come.in_range in omega (arith, as_many, below))

  -- a port that is there is routed
  routed_at : (e : End) → IsSome (kind_at kinds e) → IsRouted routes inboxes e
  routed_at e there = record { there = subst (λ o. IsSome o) (sym (under_way.routed e there)) refl; short = λ route found. short route (along route found); arrives = λ route found. arrives route (along route found) }
    where
      along : (route : Route) → port_of routes e ≡ Some (Some route) → (ch : Channel) × (out_of (channels links) e ≡ Some ch) × (route_along (number_out (channels links) e) ch ≡ route)
      along route found = let is : Some (route_from links e) ≡ Some (Some route) = sym (under_way.routed e there) ∙ found in option_some (route_along (number_out (channels links) e)) (out_of (channels links) e) route (let same : route_from links e ≡ Some route = cc in same)

      short : (route : Route) → (ch : Channel) × (out_of (channels links) e ≡ Some ch) × (route_along (number_out (channels links) e) ch ≡ route) → route.latency ≤ 10 ^ 12
      short route found = subst (λ (r : Route). r.latency ≤ 10 ^ 12) found.2 (way_out kinds links e found.0 under_way.plan.links_join found.1).short_latency

      arrives : (route : Route) → (ch : Channel) × (out_of (channels links) e ≡ Some ch) × (route_along (number_out (channels links) e) ch ≡ route) → IsSome (port_of inboxes (end_at route.component route.port))
      arrives route found =
          let way : IsWay kinds e found.0 = way_out kinds links e found.0 under_way.plan.links_join found.1 in
          let kind : IsSome (kind_at kinds found.0.to) = subst (λ o. IsSome o) (sym way.to_partner) (some_mapped (kind_at kinds e) there) in
          subst (λ (r : Route). IsSome (port_of inboxes (end_at r.component r.port))) found.2 (subst (λ o. IsSome o) (sym (under_way.queues found.0.to kind)) refl)
        where
          some_mapped : (o : Option PortKind) → IsSome o → IsSome (option_map partner o)
          some_mapped None some = absurd (false≢true some)
          some_mapped (Some k) some = refl

  -- it may have its moment
  pub ready : (component : Component S) → slice_get components m.component ≡ Some component → IsReady b settled m.at m.component routes inboxes component
  ready component is =
      let ports : List PortKind = b.ports component.device in
      let kinds_at : slice_get kinds m.component ≡ Some ports = ports_of under_way m.component component is in
      let awake : IsAwake b settled t m.component agenda component = under_way.awake m.component component is in
      let now : clock m.at m.component m.component ≡ m.at = clock_at m.at m.component m.component (omega arith) in
      record {
        waits = record {
          there = λ p lt. subst (λ o. IsSome o) (sym (under_way.queues (end_at m.component p) (kind_within kinds (end_at m.component p) ports kinds_at lt))) refl;
          waits = λ p lt. record {
            rises = subst (λ x. Rises x (queue_at inboxes (end_at m.component p))) now (box_rises under_way m.at m.component (least next) (end_at m.component p) ports kinds_at lt);
            receivable = All-weaker (IsHere links agenda ports (end_at m.component p) t) (λ (x : Msg). MayReceive ports p x.body) (λ x here. here.may) (queue_at inboxes (end_at m.component p)) (under_way.boxes (end_at m.component p) ports kinds_at lt).here;
          };
        };
        settled_then = (under_way.lawful.at component.device).settled_later (t + 1) (m.at + 1) awake.settled_then (let early : t ≤ m.at = no_earlier in omega arith);
        not_past = if_some_weaker (λ u. has u m.component agenda ≡ true) (λ u. m.at ≤ u) (b.due component.device) (λ u there. (let le : clock m.at m.component m.component ≤ u = least next u m.component there in omega arith)) awake.due_noted;
        routed = λ p lt. routed_at (end_at m.component p) (kind_within kinds (end_at m.component p) ports kinds_at lt);
      }
