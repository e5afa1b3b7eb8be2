use Rattle.std.specs.Prelude.{ℕ, ◌≡◌, ◌+◌, Bool, true, false, if◌then◌else◌, List, [], ◌∷◌, ◌++◌, map, filter, reverse, Option, Some, None, IsSome, option_map, refl}
use Rattle.std.proofs.lemmas.Bool.{false≢true}
use Rattle.std.proofs.lemmas.List.{reverse-append, reverse-reverse}
use Rattle.std.proofs.lemmas.List.Elements.{All-head, All-tail, All-weaker}
use Rattle.std.proofs.Common.{sym, ap, ◌∙◌, cond, subst, append_assoc, append-nil}
use Rattle.cs_base.specs.Plan.{End, same_end}
use Rattle.sb_message.specs.declared.message.Body.{Body}
use Rattle.sb_message.specs.declared.message.Msg.{Msg}
use Rattle.device_api.specs.World.{Event, waiting_at}
use Rattle.global_model.specs.declared.routes.Route.{Route}
use Rattle.global_model.specs.Inboxes.{port_of, end_at, put}
use Rattle.global_model.specs.Agenda.{note}
use Rattle.global_model.specs.Post.{event_along, events_along, note_all, with_arrivals, IsRouted, AreRouted}

-- while sends are posted: what is still to be posted, last first, gives with what was posted all that is posted
pub record Posts (routes : List (List (Option Route))) (from t : ℕ) (sends0 : List (ℕ × Body)) (inboxes0 : List (List (List Msg))) (agenda0 : List (Option ℕ)) (left : List (ℕ × Body)) (inboxes : List (List (List Msg))) (agenda : List (Option ℕ)) : Type 0 where
  pub routed : AreRouted routes inboxes from (reverse left)
  pub arrives : (e : End) → with_arrivals e (events_along routes from t (reverse left)) (port_of inboxes e) ≡ with_arrivals e (events_along routes from t sends0) (port_of inboxes0 e)
  pub noted : note_all (events_along routes from t (reverse left)) agenda ≡ note_all (events_along routes from t sends0) agenda0

-- an event that has been put into its inbox arrives first
put_first : (e : End) (event : Event) (events : List Event) (queues : End → Option (List Msg)) → with_arrivals e events (put event.to (record { at = event.time; body = event.body }) queues e) ≡ with_arrivals e (event ∷ events) (queues e)
put_first e event events queues = at (same_end event.to e) (queues e)
  where
    at : (here : Bool) (queue : Option (List Msg)) → with_arrivals e events (if here then option_map (λ messages. messages ++ record { at = event.time; body = event.body } ∷ []) queue else queue) ≡ option_map (λ messages. messages ++ map (λ (x : Event). record { at = x.time; body = x.body }) (cond here (event ∷ filter (λ (x : Event). same_end x.to e) events) (filter (λ (x : Event). same_end x.to e) events))) queue
    at true None = refl
    at false None = refl
    at true (Some messages) = ap Some (append_assoc messages (record { at = event.time; body = event.body } ∷ []) (waiting_at e events))
    at false (Some messages) = refl

pub posts_start : (routes : List (List (Option Route))) (from t : ℕ) (sends left : List (ℕ × Body)) (inboxes : List (List (List Msg))) (agenda : List (Option ℕ)) → left ≡ reverse sends → AreRouted routes inboxes from sends → Posts routes from t sends inboxes agenda left inboxes agenda
posts_start routes from t sends left inboxes agenda is routed =
    let same : reverse left ≡ sends = ap reverse is ∙ reverse-reverse sends in
    record {
      routed = subst (AreRouted routes inboxes from) (sym same) routed;
      arrives = λ e. ap (λ xs. with_arrivals e (events_along routes from t xs) (port_of inboxes e)) same;
      noted = ap (λ xs. note_all (events_along routes from t xs) agenda) same;
    }

put_there : (end e : End) (m : Msg) (queues : End → Option (List Msg)) → IsSome (queues e) → IsSome (put end m queues e)
put_there end e m queues there = at (same_end end e) (queues e) there
  where
    at : (here : Bool) (queue : Option (List Msg)) → IsSome queue → IsSome (if here then option_map (λ messages. messages ++ m ∷ []) queue else queue)
    at here None some = absurd (false≢true some)
    at true (Some messages) some = refl
    at false (Some messages) some = refl

module _ {routes : List (List (Option Route))} {from t : ℕ} {sends0 : List (ℕ × Body)} {inboxes0 : List (List (List Msg))} {agenda0 : List (Option ℕ)} {left : List (ℕ × Body)} {inboxes : List (List (List Msg))} {agenda : List (Option ℕ)} (posts : Posts routes from t sends0 inboxes0 agenda0 left inboxes agenda) where
  next_first : (sent : ℕ × Body) (more : List (ℕ × Body)) → left ≡ more ++ sent ∷ [] → reverse left ≡ sent ∷ reverse more
  next_first sent more is = ap reverse is ∙ reverse-append more (sent ∷ [])

  routed_first : (sent : ℕ × Body) (more : List (ℕ × Body)) → left ≡ more ++ sent ∷ [] → AreRouted routes inboxes from (sent ∷ reverse more)
  routed_first sent more is = subst (AreRouted routes inboxes from) (next_first sent more is) posts.routed

  pub next_routed : (port : ℕ) (body : Body) (more : List (ℕ × Body)) → left ≡ more ++ (port, body) ∷ [] → IsRouted routes inboxes (end_at from port)
  next_routed port body more is = All-head (λ (sent : ℕ × Body). IsRouted routes inboxes (end_at from sent.0)) (port, body) (reverse more) (routed_first (port, body) more is)

  others_routed : (sent : ℕ × Body) (more : List (ℕ × Body)) → left ≡ more ++ sent ∷ [] → AreRouted routes inboxes from (reverse more)
  others_routed sent more is = All-tail (λ (x : ℕ × Body). IsRouted routes inboxes (end_at from x.0)) sent (reverse more) (routed_first sent more is)

  events_next : (port : ℕ) (body : Body) (more : List (ℕ × Body)) (found : Option (Option Route)) → left ≡ more ++ (port, body) ∷ [] → port_of routes (end_at from port) ≡ found → events_along routes from t (reverse left) ≡ event_along found t body ++ events_along routes from t (reverse more)
  unfolding events_along
  events_next port body more found is route = ap (events_along routes from t) (next_first (port, body) more is) ∙ ap (λ r. event_along r t body ++ events_along routes from t (reverse more)) route

  pub posts_none : (port : ℕ) (body : Body) (more : List (ℕ × Body)) → left ≡ more ++ (port, body) ∷ [] → port_of routes (end_at from port) ≡ Some None → Posts routes from t sends0 inboxes0 agenda0 more inboxes agenda
  posts_none port body more is route =
      let same : events_along routes from t (reverse left) ≡ events_along routes from t (reverse more) = events_next port body more (Some None) is route in
      record {
        routed = others_routed (port, body) more is;
        arrives = λ e. ap (λ events. with_arrivals e events (port_of inboxes e)) (sym same) ∙ posts.arrives e;
        noted = ap (λ events. note_all events agenda) (sym same) ∙ posts.noted;
      }

  pub posts_more : (port : ℕ) (body : Body) (more : List (ℕ × Body)) (route : Route) (inboxes' : List (List (List Msg))) (agenda' : List (Option ℕ)) → left ≡ more ++ (port, body) ∷ [] → port_of routes (end_at from port) ≡ Some (Some route) → ((e : End) → port_of inboxes' e ≡ put (end_at route.component route.port) (record { at = t + route.latency; body = body }) (port_of inboxes) e) → agenda' ≡ note (t + route.latency) route.component agenda → Posts routes from t sends0 inboxes0 agenda0 more inboxes' agenda'
  unfolding note_all
  posts_more port body more route inboxes' agenda' is along new noted =
      let event : Event = record { time = t + route.latency; to = end_at route.component route.port; body = body } in
      let later : List Event = events_along routes from t (reverse more) in
      let same : events_along routes from t (reverse left) ≡ event ∷ later = events_next port body more (Some (Some route)) is along in
      record {
        routed = All-weaker (λ (x : ℕ × Body). IsRouted routes inboxes (end_at from x.0)) (λ (x : ℕ × Body). IsRouted routes inboxes' (end_at from x.0)) (λ x routed. record {
          there = routed.there;
          short = routed.short;
          arrives = λ r found. subst (λ o. IsSome o) (sym (new (end_at r.component r.port))) (put_there (end_at route.component route.port) (end_at r.component r.port) (record { at = t + route.latency; body = body }) (port_of inboxes) (routed.arrives r found));
        }) (reverse more) (others_routed (port, body) more is);
        arrives = λ e. ap (with_arrivals e later) (new e) ∙ put_first e event later (port_of inboxes) ∙ ap (λ events. with_arrivals e events (port_of inboxes e)) (sym same) ∙ posts.arrives e;
        noted = ap (note_all later) noted ∙ ap (λ events. note_all events agenda) (sym same) ∙ posts.noted;
      }

  pub posts_over : left ≡ [] → ((e : End) → port_of inboxes e ≡ with_arrivals e (events_along routes from t sends0) (port_of inboxes0 e)) × (agenda ≡ note_all (events_along routes from t sends0) agenda0)
  unfolding events_along note_all
  posts_over none = (λ e. sym (as_before (port_of inboxes e)) ∙ ap (λ sends. with_arrivals e (events_along routes from t (reverse sends)) (port_of inboxes e)) (sym none) ∙ posts.arrives e, ap (λ sends. note_all (events_along routes from t (reverse sends)) agenda) (sym none) ∙ posts.noted)
    where
      as_before : (queue : Option (List Msg)) → option_map (λ messages. messages ++ []) queue ≡ queue
      as_before None = refl
      as_before (Some messages) = ap Some (append-nil messages)

  pub posts_at : (port : ℕ) (body : Body) (more : List (ℕ × Body)) (route : Route) (at : ℕ) (inboxes' : List (List (List Msg))) (agenda' : List (Option ℕ)) → left ≡ more ++ (port, body) ∷ [] → port_of routes (end_at from port) ≡ Some (Some route) → at ≡ t + route.latency → ((e : End) → port_of inboxes' e ≡ put (end_at route.component route.port) (record { at = at; body = body }) (port_of inboxes) e) → agenda' ≡ note at route.component agenda → Posts routes from t sends0 inboxes0 agenda0 more inboxes' agenda'
  posts_at port body more route at inboxes' agenda' is along at_is new noted =
      posts_more port body more route inboxes' agenda' is along
      (λ e. new e ∙ ap (λ x. put (end_at route.component route.port) (record { at = x; body = body }) (port_of inboxes) e) at_is)
      (noted ∙ ap (λ x. note x route.component agenda) at_is)
