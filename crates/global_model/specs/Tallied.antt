-- How what is counted of a channel stands for the messages of the global run.
use Rattle.std.specs.Prelude.{ℕ, ◌≡◌, ◌+◌, ◌*◌, ◌≤◌, ◌<◌, List, Option, length, count_by, slice_get, Some, None, All}
use Rattle.cs_base.specs.declared.port_kind.PortKind.{PortKind}
use Rattle.cs_base.specs.Plan.{kind_at}
use Rattle.sb_message.specs.declared.message.Msg.{Msg}
use Rattle.device_api.specs.Behaviour.{Behaviour}
use Rattle.device_api.specs.Channels.{Channel, channels}
use Rattle.device_api.specs.Counts.{is_sync, counted}
use Rattle.device_api.specs.Transcript.{Script, script, bodies}
use Rattle.device_api.specs.World.{Sent, sends_on}
use Rattle.device_api.specs.declared.component.Component.{Component}
use Rattle.global_model.specs.declared.routes.Route.{Route}
use Rattle.moment_tree.specs.Places.{clock}
use Rattle.global_model.specs.Step.{network}
use Rattle.global_model.specs.Tally.{TallyState, syncs_before}
use Rattle.global_model.specs.UnderWay.{System, Stands, world_at}

-- how many null messages and events a script has, and when its next null message is due
pub record IsScript (script : Script) (syncs sends due : ℕ) : Type 0 where
  pub syncs_are : count_by (λ (m : Msg). is_sync m.body) script.messages ≡ syncs
  pub sends_are : length (bodies script.messages) ≡ sends
  pub due_is : script.sync_due ≡ due

-- what was sent on a channel, all of it before u, is counted
pub record IsTally (kind : PortKind) (ch : Channel) (sends : List Sent) (u : ℕ) (tally : TallyState) : Type 0 where
  pub interval_is : tally.interval ≡ ch.interval
  pub before : All (λ (s : Sent). s.time < u) sends
  -- null messages up to the last send
  pub syncs : ℕ
  pub syncs_are : tally.count.syncs ≡ counted syncs
  pub sends_are : tally.count.sends ≡ counted (length sends)
  -- null messages until any later time
  pub scripts : (time : ℕ) → u ≤ time → IsScript (script kind ch sends time) (syncs + syncs_before ch.interval tally.due time) (length sends) (tally.due + ch.interval * syncs_before ch.interval tally.due time)

-- each channel's sends are counted, and no other tally is kept, while the components below c have had their turn at t
pub record AreTallied {S : Type 0} (b : Behaviour S) (system : System S) (t c : ℕ) (tallies : List TallyState) : Type 0 where
  pub each : (k : ℕ) (ch : Channel) (kind : PortKind) → slice_get (channels system.links) k ≡ Some ch → kind_at system.kinds ch.from ≡ Some kind →
      (tally : TallyState) × (slice_get tallies k ≡ Some tally) × IsTally kind ch (sends_on ch (world_at (network b system.starts system.links) t c)) (clock t c ch.from.component) tally
  pub no_more : (k : ℕ) → slice_get (channels system.links) k ≡ None → slice_get tallies k ≡ None

-- of whatever system a run stands at t with its sends counted, they are counted until a time
abbrev pub CountsUntil : {S : Type 0} → Behaviour S → (S → ℕ → Type 0) → List (List (Option Route)) → ℕ → ℕ → List (Component S) → List (List (List Msg)) → List (Option ℕ) → List TallyState → List TallyState → Type 0
CountsUntil {S} b settled routes t until components inboxes agenda tallies tallies' = (system : System S) → Stands b settled system routes t 0 components inboxes agenda → until ≤ system.end → AreTallied b system t 0 tallies → AreTallied b system until 0 tallies'
