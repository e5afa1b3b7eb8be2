-- What holds of a mesh of a system, wherever its steps have led it.
use Rattle.std.specs.Prelude.{ℕ, ◌≡◌, Bool, List, All, map, slice_get, Some}
use Rattle.cs_base.specs.Plan.{IsPlan}
use Rattle.cs_base.specs.declared.link.Link.{Link}
use Rattle.cs_base.specs.declared.port_kind.PortKind.{PortKind}
use Rattle.device_api.specs.Behaviour.{Behaviour}
use Rattle.sb_message.specs.declared.message.Msg.{Msg}
use Rattle.device_api.specs.declared.logs.Line.{Line}
use Rattle.device_api.specs.Channels.{Channel}
use Rattle.device_api.specs.World.{global_until, log_of, logs_of, sends_on}
use Rattle.device_api.specs.Transcript.{transcript}
use Rattle.device_api.specs.GlobalCounts.{counts_of}
use Rattle.global_model.specs.Step.{network}
use Rattle.run_laws.specs.LocalRuns.{IsPrefix}
use Rattle.run_laws.specs.Wired.{IsChannel}
use Rattle.run_steps.specs.declared.step.Step.{Step}
use Rattle.sync_rule.specs.declared.runner.Runner.{Runner}
use Rattle.sync_laws.specs.Whole.{HaveEnded}
use Rattle.mesh_core.specs.State.{State}
use Rattle.mesh_core.specs.Steps.{Enables, Steps}
use Rattle.mesh_core.specs.MeshOf.{IsMeshOf}
use Rattle.mesh_core.specs.Start.{first_mesh}
use Rattle.mesh_core.specs.Left.{logs_left, counts_left}

-- whether it is made or refused
abbrev pub StepsKeepIt : {V : Type 0} → Behaviour V → (V → ℕ → Type 0) → Type 0
StepsKeepIt {V} b settled = (starts : List V) (links : List Link) (end : ℕ) (old new : State V) (step : Step) (made : Bool) → IsMeshOf b settled starts links end old → Steps b step old new made → IsMeshOf b settled starts links end new

-- the log of a component and the transcript of a channel in the global run of devices that are joined by links
abbrev pub log_in_run : {V : Type 0} → Behaviour V → List V → List Link → ℕ → ℕ → List Line
log_in_run b starts links end c = log_of c (global_until (network b starts links) end)

abbrev pub transcript_in_run : {V : Type 0} → Behaviour V → List V → List Link → ℕ → Channel → PortKind → List Msg
transcript_in_run b starts links end ch kind = transcript kind ch (sends_on ch (global_until (network b starts links) end)) end

abbrev pub LogsBegin : {V : Type 0} → Behaviour V → (V → ℕ → Type 0) → Type 0
LogsBegin {V} b settled = (starts : List V) (links : List Link) (end : ℕ) (mesh : State V) → IsMeshOf b settled starts links end mesh → (c : ℕ) (r : Runner V) → slice_get mesh.runners c ≡ Some r → IsPrefix r.log (log_in_run b starts links end c)

abbrev pub ListsBegin : {V : Type 0} → Behaviour V → (V → ℕ → Type 0) → Type 0
ListsBegin {V} b settled = (starts : List V) (links : List Link) (end : ℕ) (mesh : State V) → (of : IsMeshOf b settled starts links end mesh) → (ch : Channel) (s : V) (kind : PortKind) → IsChannel (network b starts links) ch s kind → IsPrefix (of.sent ch.from) (transcript_in_run b starts links end ch kind)

abbrev pub LogsAreWhole : {V : Type 0} → Behaviour V → (V → ℕ → Type 0) → Type 0
LogsAreWhole {V} b settled = (starts : List V) (links : List Link) (end : ℕ) (mesh : State V) → IsMeshOf b settled starts links end mesh → HaveEnded b mesh.runners → (c : ℕ) (r : Runner V) → slice_get mesh.runners c ≡ Some r → r.log ≡ log_in_run b starts links end c

abbrev pub ListsAreWhole : {V : Type 0} → Behaviour V → (V → ℕ → Type 0) → Type 0
ListsAreWhole {V} b settled = (starts : List V) (links : List Link) (end : ℕ) (mesh : State V) → (of : IsMeshOf b settled starts links end mesh) → HaveEnded b mesh.runners → (ch : Channel) (s : V) (kind : PortKind) → IsChannel (network b starts links) ch s kind → of.sent ch.from ≡ transcript_in_run b starts links end ch kind

-- a new mesh is a mesh of its system
abbrev pub StartsStanding : {V : Type 0} → Behaviour V → (V → ℕ → Type 0) → Type 0
StartsStanding {V} b settled = (starts : List V) (links : List Link) (end : ℕ) → IsPlan end (map b.ports starts) links → All (λ (device : V). settled device 0) starts → IsMeshOf b settled starts links end (first_mesh b starts links end)

-- what a mesh leaves where all components have ended is what the global run leaves
abbrev pub LeavesLogs : {V : Type 0} → Behaviour V → (V → ℕ → Type 0) → Type 0
LeavesLogs {V} b settled = (starts : List V) (links : List Link) (end : ℕ) (mesh : State V) → IsMeshOf b settled starts links end mesh → HaveEnded b mesh.runners → logs_left mesh ≡ logs_of (global_until (network b starts links) end)

abbrev pub LeavesCounts : {V : Type 0} → Behaviour V → (V → ℕ → Type 0) → Type 0
LeavesCounts {V} b settled = (starts : List V) (links : List Link) (end : ℕ) (mesh : State V) → IsMeshOf b settled starts links end mesh → HaveEnded b mesh.runners → counts_left mesh ≡ counts_of (network b starts links) end

-- some step of a mesh is enabled
pub record CanStep {V : Type 0} (b : Behaviour V) (mesh : State V) : Type 0 where
  pub step : Step
  pub enabled : Enables b step mesh

-- a mesh in which not all components have ended can step
abbrev pub NeverStuck : {V : Type 0} → Behaviour V → (V → ℕ → Type 0) → Type 0
NeverStuck {V} b settled = (starts : List V) (links : List Link) (end : ℕ) (mesh : State V) → IsMeshOf b settled starts links end mesh → (HaveEnded b mesh.runners → ⊥) → CanStep b mesh
