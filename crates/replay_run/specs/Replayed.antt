-- A schedule's lines, each a step that is enabled in its turn, or the first that isn't.
use Rattle.std.specs.Prelude.{ℕ, ◌≡◌, ◌+◌, Bool, true, false, List, [], ◌∷◌, ◌++◌, length, Option, Some, None}
use Rattle.cs_base.specs.Lines.{lines_of}
use Rattle.cs_base.specs.declared.wiring.Wiring.{Wiring}
use Rattle.device_api.specs.Behaviour.{Behaviour}
use Rattle.run_steps.specs.Steps.{IsStepOf}
use Rattle.run_steps.specs.declared.step.Step.{Step}
use Rattle.mesh_core.specs.State.{State}
use Rattle.mesh_core.specs.Steps.{Leads, Enables}
use Rattle.mesh_core.specs.Start.{first_mesh}
use Rattle.replay_run.specs.declared.schedule.ReplayBad.{ReplayBad}
use Rattle.replay_run.specs.declared.schedule.ReplayBad.TheVariants.{Line, NoMemory}

-- the step that a line spells leads from one state to another
pub record IsMade {V : Type 0} (b : Behaviour V) (line : List ℕ) (old new : State V) : Type 0 where
  pub step : Step
  pub spells : IsStepOf line (Some step)
  pub leads : Leads b step old new

-- a line isn't enabled: it spells no step, or one that isn't enabled
abbrev pub IsDenied : {V : Type 0} → Behaviour V → Option Step → State V → Type 0
IsDenied b None mesh = Unit {0}
IsDenied {V} b (Some step) mesh = Enables b step mesh → ⊥

pub record IsAtFault {V : Type 0} (b : Behaviour V) (line : List ℕ) (mesh : State V) : Type 0 where
  pub step : Option Step
  pub spells : IsStepOf line step
  pub denied : IsDenied b step mesh

-- each of these lines spells a step, and they lead from one state to another, each from where the one before it led
abbrev pub LeadOn : {V : Type 0} → Behaviour V → List (List ℕ) → State V → State V → Type 0
LeadOn b [] old new = new ≡ old
LeadOn {V} b (line ∷ more) old new = (mid : State V) × IsMade b line old mid × LeadOn b more mid new

-- all lines of a schedule lead from one state to another
abbrev pub IsReplayed : {V : Type 0} → Behaviour V → List ℕ → State V → State V → Type 0
IsReplayed b schedule old new = LeadOn b (lines_of schedule) old new

-- the lines before this one, counted from 1, lead to a state in which it isn't enabled
pub record IsFirstAtFault {V : Type 0} (b : Behaviour V) (schedule : List ℕ) (old : State V) (number : ℕ) : Type 0 where
  pub before : List (List ℕ)
  pub line : List ℕ
  pub behind : List (List ℕ)
  pub lines : lines_of schedule ≡ before ++ line ∷ behind
  pub is : number ≡ length before + 1
  pub reached : State V
  pub lead : LeadOn b before old reached
  pub at_fault : IsAtFault b line reached

-- why a schedule was not replayed to its end
abbrev pub IsReplayBad : {V : Type 0} → Behaviour V → List ℕ → State V → ReplayBad → Type 0
IsReplayBad b schedule old (Line number) = IsFirstAtFault b schedule old number
IsReplayBad b schedule old NoMemory = Unit {0}

-- the step of a line was made, or the line isn't enabled and nothing changed
abbrev pub Makes : {V : Type 0} → Behaviour V → List ℕ → State V → State V → Bool → Type 0
Makes b line old new true = IsMade b line old new
Makes b line old new false = IsAtFault b line old × (new ≡ old)

-- ---- from the start

-- the mesh of devices at their start
abbrev pub start_of : {V : Type 0} → Behaviour V → List V → Wiring → State V
start_of b devices wiring = first_mesh b devices wiring.links wiring.end

abbrev pub IsReplayedFrom : {V : Type 0} → Behaviour V → List V → Wiring → List ℕ → State V → Type 0
IsReplayedFrom b devices wiring schedule new = IsReplayed b schedule (start_of b devices wiring) new

abbrev pub IsRefusedFrom : {V : Type 0} → Behaviour V → List V → Wiring → List ℕ → ReplayBad → Type 0
IsRefusedFrom b devices wiring schedule bad = IsReplayBad b schedule (start_of b devices wiring) bad
