-- A component that ticks alone, while the agenda still has the moment before.
use Rattle.std.specs.Prelude.{ℕ, ◌≡◌, ◌≢◌, ◌+◌, ◌++◌, ◌≤◌, List, length, slice_get, slice_set, Option, Some}
use Rattle.sb_message.specs.declared.message.Msg.{Msg}
use Rattle.device_api.specs.Behaviour.{Behaviour}
use Rattle.device_api.specs.declared.component.Component.{Component}
use Rattle.device_api.specs.World.{logged_at}
use Rattle.global_model.specs.declared.routes.Route.{Route}
use Rattle.global_model.specs.declared.run_on.Stood.{Stood}
use Rattle.global_model.specs.Tally.{TallyState}
use Rattle.global_model.specs.Tallied.{AreTallied}
use Rattle.global_model.specs.Inboxes.{IsSoonest}
use Rattle.global_model.specs.Step.{late_of}
use Rattle.global_model.specs.Turn.{inputs_of}
use Rattle.global_model.specs.UnderWay.{System, Stands}

-- component c has had its turn at t, and the run stands where the agenda says that c has something to do next at `next`
abbrev pub WouldStand : {S : Type 0} → Behaviour S → (S → ℕ → Type 0) → System S → List (List (Option Route)) → ℕ → ℕ → List (Component S) → List (List (List Msg)) → List (Option ℕ) → ℕ → Type 0
WouldStand b settled system routes t c components inboxes agenda next = Stands b settled system routes t (c + 1) components inboxes (slice_set agenda c (Some next))

-- component c is there, and it has something to do again at `next`
pub record GoesOn {S : Type 0} (b : Behaviour S) (c : ℕ) (components : List (Component S)) (inboxes : List (List (List Msg))) (next : ℕ) : Type 0 where
  pub component : Component S
  pub there : slice_get components c ≡ Some component
  pub soonest : IsSoonest (late_of (b.due component.device)) (length (b.ports component.device)) (inputs_of inboxes c) next

-- no other component has something to do before a time
abbrev pub OthersFrom : ℕ → ℕ → List (Option ℕ) → Type 0
OthersFrom t c dues = (d u : ℕ) → d ≢ c → slice_get dues d ≡ Some (Some u) → t ≤ u

-- a run of some system would stand so, and may go on until a time
abbrev pub MayRunOn : {S : Type 0} → Behaviour S → (S → ℕ → Type 0) → List (List (Option Route)) → ℕ → ℕ → ℕ → ℕ → List (Component S) → List (List (List Msg)) → List (Option ℕ) → Type 0
MayRunOn {S} b settled routes t until c next components inboxes agenda = (system : System S) × WouldStand b settled system routes t c components inboxes agenda next × (until ≤ system.end)

-- of whatever system it is, it then would stand where component c stood last
abbrev pub RunsOn : {S : Type 0} → Behaviour S → (S → ℕ → Type 0) → List (List (Option Route)) → ℕ → ℕ → ℕ → ℕ → List (Component S) → List (List (List Msg)) → List (Option ℕ) → List (Component S) → List (List (List Msg)) → List (Option ℕ) → Stood → Type 0
RunsOn {S} b settled routes t until c next components inboxes agenda components' inboxes' agenda' stood = (system : System S) → WouldStand b settled system routes t c components inboxes agenda next → until ≤ system.end → WouldStand b settled system routes stood.last c components' inboxes' agenda' stood.next

-- and what was sent until there is counted
abbrev pub CountsOn : {S : Type 0} → Behaviour S → (S → ℕ → Type 0) → List (List (Option Route)) → ℕ → ℕ → ℕ → ℕ → List (Component S) → List (List (List Msg)) → List (Option ℕ) → List TallyState → List TallyState → Stood → Type 0
CountsOn {S} b settled routes t until c next components inboxes agenda tallies tallies' stood = (system : System S) → WouldStand b settled system routes t c components inboxes agenda next → until ≤ system.end → AreTallied b system t (c + 1) tallies → AreTallied b system stood.last (c + 1) tallies'

-- a component's device has done what it does at its due time t
abbrev pub HasTicked : {S : Type 0} → Behaviour S → ℕ → Component S → Component S → Type 0
HasTicked b t component component' = component'.device ≡ (b.tick component.device t).state

-- and what it logged then is at the end of the log
abbrev pub HasLogged : {S : Type 0} → Behaviour S → ℕ → Component S → Component S → Type 0
HasLogged b t component component' = component'.log ≡ component.log ++ logged_at t (b.tick component.device t).lines
