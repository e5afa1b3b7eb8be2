-- A run of the simulator and the global run of its system.
use Rattle.std.specs.Prelude.{ℕ, ◌≡◌, ◌≤◌, List, [], map}
use Rattle.cs_base.specs.declared.wiring.Wiring.{Wiring}
use Rattle.device_api.specs.declared.component.Component.{Component}
use Rattle.device_api.specs.declared.logs.Line.{Line}
use Rattle.device_api.specs.Behaviour.{Behaviour}
use Rattle.device_api.specs.World.{World, global_until, logs_of}
use Rattle.device_api.specs.declared.counts.Count.{Count}
use Rattle.device_api.specs.declared.counts.Outcome.{Outcome}
use Rattle.device_api.specs.GlobalCounts.{counts_of}
use Rattle.global_model.specs.declared.global_run.Global.{Global}
use Rattle.global_model.specs.Step.{network}
use Rattle.global_model.specs.Tallied.{AreTallied}
use Rattle.global_model.specs.UnderWay.{System, Stands, component_of}

-- devices that start in these states, joined by a wiring
abbrev pub system_of : {S : Type 0} → Wiring → List S → System S
system_of wiring starts = record { end = wiring.end; kinds = wiring.kinds; links = wiring.links; starts = starts }

-- the world of a system's global run of all moments before t
abbrev pub world_of : {S : Type 0} → Behaviour S → System S → ℕ → World S
world_of b system t = global_until (network b system.starts system.links) t

-- a run stands at t: all moments before t have been processed, and no other
pub record IsAt {S : Type 0} (b : Behaviour S) (settled : S → ℕ → Type 0) (system : System S) (t : ℕ) (run : Global S) : Type 0 where
  pub time_is : run.time ≡ t
  pub stands : Stands b settled system run.routes t 0 run.components.items run.inboxes run.agenda
  pub tallied : AreTallied b system t 0 run.tallies
  pub nothing_sent : run.done.sends ≡ []
  pub nothing_logged : run.done.lines ≡ []

-- a run of some system
abbrev pub IsRun : {S : Type 0} → Behaviour S → (S → ℕ → Type 0) → Global S → Type 0
IsRun {S} b settled run = (system : System S) × IsAt b settled system run.time run

-- a run of some system that may go on until t
abbrev pub MayRunUntil : {S : Type 0} → Behaviour S → (S → ℕ → Type 0) → Global S → ℕ → Type 0
MayRunUntil {S} b settled run t = (system : System S) × IsAt b settled system run.time run × (t ≤ system.end)

-- of whatever system a run is, it has come to t
abbrev pub ComesTo : {S : Type 0} → Behaviour S → (S → ℕ → Type 0) → Global S → ℕ → Global S → Type 0
ComesTo {S} b settled run t run' = (system : System S) → IsAt b settled system run.time run → t ≤ system.end → IsAt b settled system t run'

-- these are the components of a run
abbrev pub AreComponents : {S : Type 0} → Behaviour S → (S → ℕ → Type 0) → Global S → List (Component S) → Type 0
AreComponents {S} b settled run components = (system : System S) → IsAt b settled system run.time run → components ≡ map component_of (world_of b system run.time).runs

-- these are the logs of a run
abbrev pub AreLogs : {S : Type 0} → Behaviour S → (S → ℕ → Type 0) → Global S → List (List Line) → Type 0
AreLogs {S} b settled run logs = (system : System S) → IsAt b settled system run.time run → logs ≡ logs_of (world_of b system run.time)

-- so much went on the channels of a run
abbrev pub AreCounts : {S : Type 0} → Behaviour S → (S → ℕ → Type 0) → Global S → List Count → Type 0
AreCounts {S} b settled run counts = (system : System S) → IsAt b settled system run.time run → counts ≡ counts_of (network b system.starts system.links) run.time

-- an outcome has the logs of a run
abbrev pub HasLogs : {S : Type 0} → Behaviour S → (S → ℕ → Type 0) → Global S → Outcome → Type 0
HasLogs b settled run outcome = AreLogs b settled run outcome.logs.lists

-- and what went on its channels
abbrev pub HasCounts : {S : Type 0} → Behaviour S → (S → ℕ → Type 0) → Global S → Outcome → Type 0
HasCounts b settled run outcome = AreCounts b settled run outcome.counts

-- an outcome has the logs of devices that start in these states, at the end of their wiring
abbrev pub HasLogsOf : {S : Type 0} → Behaviour S → List S → Wiring → Outcome → Type 0
HasLogsOf b starts wiring outcome = outcome.logs.lists ≡ logs_of (global_until (network b starts wiring.links) wiring.end)

-- and what went on their channels
abbrev pub HasCountsOf : {S : Type 0} → Behaviour S → List S → Wiring → Outcome → Type 0
HasCountsOf b starts wiring outcome = outcome.counts ≡ counts_of (network b starts wiring.links) wiring.end
