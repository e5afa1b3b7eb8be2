-- What is sent arrives later at other ports.
use Rattle.std.specs.Prelude.{ℕ, ◌≡◌, ◌+◌, ◌≤◌, ◌^◌, List, [], ◌∷◌, ◌++◌, Option, Some, None, IsSome, All, option_map}
use Rattle.cs_base.specs.Plan.{End}
use Rattle.sb_message.specs.declared.message.Body.{Body}
use Rattle.sb_message.specs.declared.message.Msg.{Msg}
use Rattle.device_api.specs.World.{Event, waiting_at}
use Rattle.global_model.specs.declared.routes.Route.{Route}
use Rattle.global_model.specs.Inboxes.{port_of, end_at}
use Rattle.global_model.specs.Agenda.{note}

-- the event of what is sent at t along a route; none where there is no route
abbrev pub event_along : Option (Option Route) → ℕ → Body → List Event
event_along None t body = []
event_along (Some None) t body = []
event_along (Some (Some route)) t body = record { time = t + route.latency; to = end_at route.component route.port; body = body } ∷ []

-- the events of what a component sends at t, in order
unfoldable pub events_along : List (List (Option Route)) → ℕ → ℕ → List (ℕ × Body) → List Event
events_along routes from t [] = []
events_along routes from t (sent ∷ more) = event_along (port_of routes (end_at from sent.0)) t sent.1 ++ events_along routes from t more

-- the times of events are noted
unfoldable pub note_all : List Event → List (Option ℕ) → List (Option ℕ)
note_all [] dues = dues
note_all (event ∷ more) dues = note_all more (note event.time event.to.component dues)

-- a queue with what arrives at its end
abbrev pub with_arrivals : End → List Event → Option (List Msg) → Option (List Msg)
with_arrivals end events queue = option_map (λ messages. messages ++ waiting_at end events) queue

-- a port that is there has a route that is short and leads to an inbox, or none
pub record IsRouted (routes : List (List (Option Route))) (inboxes : List (List (List Msg))) (e : End) : Type 0 where
  pub there : IsSome (port_of routes e)
  pub short : (route : Route) → port_of routes e ≡ Some (Some route) → route.latency ≤ 10 ^ 12
  pub arrives : (route : Route) → port_of routes e ≡ Some (Some route) → IsSome (port_of inboxes (end_at route.component route.port))

-- each send is by such a port
abbrev pub AreRouted : List (List (Option Route)) → List (List (List Msg)) → ℕ → List (ℕ × Body) → Type 0
AreRouted routes inboxes from sends = All (λ (sent : ℕ × Body). IsRouted routes inboxes (end_at from sent.0)) sends

-- what a component sends at t has come to where it arrives
abbrev pub Arrive : List (List (Option Route)) → ℕ → ℕ → List (ℕ × Body) → List (List (List Msg)) → List (List (List Msg)) → Type 0
Arrive routes from t sends inboxes inboxes' = (e : End) → port_of inboxes' e ≡ with_arrivals e (events_along routes from t sends) (port_of inboxes e)
