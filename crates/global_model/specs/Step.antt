-- One component's moment: its device reacts, its lines are logged, and what it sends is on its way.
use Rattle.std.specs.Prelude.{ℕ, ◌≡◌, ◌+◌, ◌<◌, ◌^◌, min, List, ◌++◌, length, slice_get, slice_set, Option, Some, None}
use Rattle.cs_base.specs.declared.link.Link.{Link}
use Rattle.cs_base.specs.Plan.{End}
use Rattle.sb_message.specs.declared.message.Msg.{Msg}
use Rattle.device_api.specs.Behaviour.{Reaction, Behaviour, IsNotPast}
use Rattle.device_api.specs.World.{react, arrivals, logged_at, Network}
use Rattle.device_api.specs.declared.component.Component.{Component}
use Rattle.moment_tree.specs.declared.agenda.Moment.{Moment}
use Rattle.global_model.specs.declared.routes.Route.{Route}
use Rattle.global_model.specs.Inboxes.{port_of, end_at, IsSoonest}
use Rattle.global_model.specs.Post.{events_along, note_all, with_arrivals, IsRouted}
use Rattle.global_model.specs.Reactions.{IsMoment}
use Rattle.global_model.specs.Tally.{TallyState, AreCounted}
use Rattle.global_model.specs.Turn.{inputs_of, AreQueues, taken_before}

-- what the device of component c does at t, with these inboxes
abbrev pub moment_in : {S : Type 0} → Behaviour S → ℕ → ℕ → List (List (List Msg)) → S → Reaction S
moment_in b t c inboxes s = react b t (arrivals t (inputs_of inboxes c) (length (b.ports s))) s

-- what the device of a moment's component does then, with these inboxes
abbrev pub reaction_at : {S : Type 0} → Behaviour S → Moment → List (List (List Msg)) → Component S → Reaction S
reaction_at b m inboxes component = moment_in b m.at m.component inboxes component.device

-- a component after a reaction at t
abbrev pub component_after : {S : Type 0} → ℕ → Component S → Reaction S → Component S
component_after t component r = record { device = r.state; log = component.log ++ logged_at t r.lines }

-- component c may have its moment t
pub record IsReady {S : Type 0} (b : Behaviour S) (settled : S → ℕ → Type 0) (t c : ℕ) (routes : List (List (Option Route))) (inboxes : List (List (List Msg))) (component : Component S) : Type 0 where
  pub waits : AreQueues (b.ports component.device) c t inboxes
  pub settled_then : settled component.device (t + 1)
  pub not_past : IsNotPast t (b.due component.device)
  pub routed : (p : ℕ) → p < length (b.ports component.device) → IsRouted routes inboxes (end_at c p)

-- a due time, if there is one, cut to the latest end of a run
abbrev pub late_of : Option ℕ → ℕ
late_of None = 10 ^ 15
late_of (Some due) = min due (10 ^ 15)

-- component c has had its moment t, and `next` is the first time at which it has something to do again
pub record HasStepped {S : Type 0} (b : Behaviour S) (settled : S → ℕ → Type 0) (t c : ℕ) (routes : List (List (Option Route))) (component : Component S) (components : List (Component S)) (inboxes : List (List (List Msg))) (agenda : List (Option ℕ)) (components' : List (Component S)) (inboxes' : List (List (List Msg))) (agenda' : List (Option ℕ)) (next : ℕ) : Type 0 where
  pub components_are : components' ≡ slice_set components c (component_after t component (moment_in b t c inboxes component.device))
  pub inboxes_are : (e : End) → port_of inboxes' e ≡ with_arrivals e (events_along routes c t (moment_in b t c inboxes component.device).sends) (taken_before (t + 1) c (length (b.ports component.device)) (port_of inboxes) e)
  pub agenda_is : agenda' ≡ note_all (events_along routes c t (moment_in b t c inboxes component.device).sends) agenda
  pub whole : IsMoment b settled component.device t (moment_in b t c inboxes component.device)
  pub soonest : IsSoonest (late_of (b.due (moment_in b t c inboxes component.device).state)) (length (b.ports component.device)) (inputs_of inboxes' c) next

-- devices that start in these states, joined by links
abbrev pub network : {S : Type 0} → Behaviour S → List S → List Link → Network S
network b starts links = record { behaviour = b; starts = starts; links = links }

-- the moment's component is there, and may have it
abbrev pub MayStep : {S : Type 0} → Behaviour S → (S → ℕ → Type 0) → Moment → List (List (Option Route)) → List (Component S) → List (List (List Msg)) → Type 0
MayStep {S} b settled m routes components inboxes = (component : Component S) × (slice_get components m.component ≡ Some component) × IsReady b settled m.at m.component routes inboxes component

-- the moment's component has had it
abbrev pub Steps : {S : Type 0} → Behaviour S → (S → ℕ → Type 0) → Moment → List (List (Option Route)) → List (Component S) → List (List (List Msg)) → List (Option ℕ) → List (Component S) → List (List (List Msg)) → List (Option ℕ) → ℕ → Type 0
Steps {S} b settled m routes components inboxes agenda components' inboxes' agenda' next = (component : Component S) → slice_get components m.component ≡ Some component → HasStepped b settled m.at m.component routes component components inboxes agenda components' inboxes' agenda' next

-- and what it sent then is counted
abbrev pub CountsStep : {S : Type 0} → Behaviour S → Moment → List (List (Option Route)) → List (Component S) → List (List (List Msg)) → List TallyState → List TallyState → Type 0
CountsStep {S} b m routes components inboxes tallies tallies' = (component : Component S) → slice_get components m.component ≡ Some component → AreCounted routes m.component m.at (reaction_at b m inboxes component).sends tallies tallies'
