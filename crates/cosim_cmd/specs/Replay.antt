-- What `replay` writes: how far a topology's devices have come after the steps of a schedule.
use Rattle.std.specs.Prelude.{ℕ, ◌≡◌, ◌↔◌, ◌∷◌, [], ◌++◌, Bool, IsTrue, List, None, ⊤}
use Rattle.cs_base.specs.Outside.{FilesSeen}
use Rattle.device_api.specs.Joined.{joined_until}
use Rattle.device_set.specs.declared.any_device.AnyDevice.{AnyDevice}
use Rattle.device_set.specs.AnyKind.{any_device}
use Rattle.device_set.specs.Starts.{starts_of, too_long}
use Rattle.device_set.specs.Images.{image_names}
use Rattle.mesh_core.specs.State.{State}
use Rattle.mesh_core.specs.Left.{logs_left}
use Rattle.sync_laws.specs.Whole.{HaveEnded}
use Rattle.replay_run.specs.Replayed.{IsReplayed, IsFirstAtFault, start_of}
use Rattle.replay_run.specs.Report.{state_line}
use Rattle.topology_file.specs.declared.topology.Topology.{Topology}
use Rattle.topology_file.specs.Ports.{names_of}
use Rattle.cosim_cmd.specs.Sentence.{Text}
use Rattle.cosim_cmd.specs.Inputs.{AreImages, AreImagesAnd, AsksNothing, IsUnreadAs, OfOneRead, OfRead, IsUnreadOf}
use Rattle.cosim_cmd.specs.Lines.{schedule_line}
use Rattle.cosim_cmd.specs.Model.{OfTopology, IsTooLong, LacksRoom}
use Rattle.cosim_cmd.specs.NoTopology.{IsNoTopology}
use Rattle.cosim_cmd.specs.declared.refusal.OutputBad.{OutputBad}
use Rattle.cosim_cmd.specs.declared.refusal.OutputBad.TheVariants as bad

-- ---- what is written of a mesh

-- the joined log so far, and behind it whether all components have ended
pub record IsStateText (t : Topology) (mesh : State AnyDevice) (text : List ℕ) : Type 0 where
  pub ended : Bool
  pub told : IsTrue ended ↔ HaveEnded any_device mesh.runners
  pub text_is : text ≡ joined_until t.wiring.end (names_of t.components) (logs_left mesh) ++ state_line ended

-- ---- devices at their start, and a schedule

-- all lines are steps that are enabled in their turn, and the text is that of the mesh to which they lead
pub record IsStepped (t : Topology) (devices : List AnyDevice) (schedule text : List ℕ) : Type 0 where
  pub mesh : State AnyDevice
  pub replayed : IsReplayed any_device schedule (start_of any_device devices t.wiring) mesh
  pub written : IsStateText t mesh text

-- a line is the first that is no step or whose step isn't enabled after the lines before it
pub record IsUnplayed (t : Topology) (devices : List AnyDevice) (schedule line : List ℕ) : Type 0 where
  pub number : ℕ
  pub first : IsFirstAtFault any_device schedule (start_of any_device devices t.wiring) number
  pub named : line ≡ schedule_line number

-- ---- a topology, the programs of its hosts, and a schedule

-- the programs fit their hosts, and the schedule is one of enabled steps, or has a first line at fault
abbrev pub Replays : Topology → List (List ℕ) → List ℕ → List ℕ → Type 0
Replays t images schedule text = (too_long t images ≡ None) × IsStepped t (starts_of t.components images) schedule text

abbrev pub IsFaulty : Topology → List (List ℕ) → List ℕ → List ℕ → Type 0
IsFaulty t images schedule line = (too_long t images ≡ None) × IsUnplayed t (starts_of t.components images) schedule line

-- the schedule is the last of these contents, and the others are the programs
pub record WithSchedule (contents : List (List ℕ)) (P : List (List ℕ) → List ℕ → Type 0) : Type 0 where
  pub images : List (List ℕ)
  pub schedule : List ℕ
  pub behind : contents ≡ images ++ schedule ∷ []
  pub fact : P images schedule

-- ---- a topology text, and what its other files hold

-- the text is what is written after the schedule
abbrev pub IsReplay : List ℕ → List (List ℕ) → List ℕ → Type 0
IsReplay bytes contents text = WithSchedule contents (λ images schedule. OfTopology bytes (λ t. Replays t images schedule text))

-- the line names the schedule's first line at fault
abbrev pub IsScheduleRefused : List ℕ → List (List ℕ) → List ℕ → Type 0
IsScheduleRefused bytes contents line = WithSchedule contents (λ images schedule. OfTopology bytes (λ t. IsFaulty t images schedule line))

-- the programs fit their hosts, and each line is a step that is enabled in its turn
abbrev pub CanStep : Topology → List (List ℕ) → List ℕ → Type 0
CanStep t images schedule = (too_long t images ≡ None) × (mesh : State AnyDevice) × IsReplayed any_device schedule (start_of any_device (starts_of t.components images) t.wiring) mesh

abbrev pub CanReplay : List ℕ → List (List ℕ) → Type 0
CanReplay bytes contents = WithSchedule contents (λ images schedule. OfTopology bytes (λ t. CanStep t images schedule))

-- ---- with the files, which are read after the topology

-- the schedule of this name can't be replayed on devices at their start
abbrev pub IsScheduleBad : Topology → List AnyDevice → Text → FilesSeen → FilesSeen → OutputBad → Type 0
IsScheduleBad t devices name before after bad.NoMemory = ⊤
IsScheduleBad t devices name before after (bad.File line) = IsUnreadAs name before after line
IsScheduleBad t devices name before after (bad.Schedule line) = OfOneRead name before after (λ schedule. IsUnplayed t devices schedule line)
IsScheduleBad t devices name before after _ = ⊥

-- the names of the programs of a topology's hosts, and those and the schedule's
abbrev pub AreOfHosts : Topology → List Text → Type 0
AreOfHosts t names = names ≡ image_names t.components

abbrev pub AreForReplay : Topology → Text → List Text → Type 0
AreForReplay t name names = names ≡ image_names t.components ++ name ∷ []

-- nor on a topology
abbrev pub IsSystemBad : Topology → Text → FilesSeen → FilesSeen → OutputBad → Type 0
IsSystemBad t name before after bad.NoMemory = ⊤
IsSystemBad t name before after (bad.File line) = IsUnreadOf (AreForReplay t name) before after line
IsSystemBad t name before after (bad.Image line) = OfRead (AreOfHosts t) before after (λ images. IsTooLong t images line)
IsSystemBad t name before after (bad.Schedule line) = OfRead (AreForReplay t name) before after (λ contents. WithSchedule contents (λ images schedule. IsFaulty t images schedule line))
IsSystemBad t name before after _ = ⊥

-- nor on the system of a text
abbrev pub IsReplayBad : List ℕ → Text → FilesSeen → FilesSeen → OutputBad → Type 0
IsReplayBad bytes name before after bad.NoMemory = ⊤
IsReplayBad bytes name before after (bad.Topology line) = IsNoTopology bytes line × AsksNothing before after
IsReplayBad bytes name before after (bad.File line) = IsUnreadOf (AreImagesAnd bytes name) before after line
IsReplayBad bytes name before after (bad.Image line) = OfRead (AreImages bytes) before after (λ images. LacksRoom bytes images line)
IsReplayBad bytes name before after (bad.Schedule line) = OfRead (AreImagesAnd bytes name) before after (λ contents. IsScheduleRefused bytes contents line)
IsReplayBad bytes name before after (bad.Broken cause line) = ⊥
IsReplayBad bytes name before after (bad.Asm line) = ⊥
