-- What each command makes of the bytes of its files, and for what it refuses them.
use Rattle.std.specs.Prelude.{ℕ, ◌≡◌, List, None}
use Rattle.topology_file.specs.declared.topology.Topology.{Topology}
use Rattle.topology_file.specs.Reading.{IsTopologyText}
use Rattle.cosim_cmd.specs.Sentence.{Sentence, Check, Model, Serial, Replay, Asm}
use Rattle.cosim_cmd.specs.Inputs.{Inputs}
use Rattle.cosim_cmd.specs.NoTopology.{IsNoTopology}
use Rattle.device_set.specs.Starts.{too_long}
use Rattle.cosim_cmd.specs.Check.{IsChecked}
use Rattle.cosim_cmd.specs.Model.{OfTopology, IsModelled, LacksRoom}
use Rattle.cosim_cmd.specs.Replay.{IsReplay, IsScheduleRefused, CanReplay}
use Rattle.cosim_cmd.specs.Asm.{IsAssembled, IsNoProgram}

-- the output
abbrev pub IsOutput : Sentence → Inputs → List ℕ → Type 0
IsOutput (Check file) inputs text = IsChecked inputs.text text
IsOutput (Model file stats) inputs text = IsModelled stats inputs.text inputs.more text
IsOutput (Serial file stats) inputs text = IsModelled stats inputs.text inputs.more text
IsOutput (Replay file schedule) inputs text = IsReplay inputs.text inputs.more text
IsOutput (Asm file) inputs text = IsAssembled inputs.text text

-- nothing is refused for this
abbrev pub Never : List ℕ → Type 0
Never line = ⊥

-- the bytes are no topology, where the command reads one
abbrev pub LacksTopology : Sentence → List ℕ → List ℕ → Type 0
LacksTopology (Check file) bytes line = IsNoTopology bytes line
LacksTopology (Model file stats) bytes line = IsNoTopology bytes line
LacksTopology (Serial file stats) bytes line = IsNoTopology bytes line
LacksTopology (Replay file schedule) bytes line = IsNoTopology bytes line
LacksTopology (Asm file) bytes line = Never line

-- the bytes are no program, where the command reads one
abbrev pub LacksProgram : Sentence → List ℕ → List ℕ → Type 0
LacksProgram (Asm file) bytes line = IsNoProgram bytes line
LacksProgram _ bytes line = Never line

-- a program is too long for its host, where the command runs it
abbrev pub LacksHostRoom : Sentence → List ℕ → List (List ℕ) → List ℕ → Type 0
LacksHostRoom (Model file stats) bytes images line = LacksRoom bytes images line
LacksHostRoom (Serial file stats) bytes images line = LacksRoom bytes images line
LacksHostRoom (Replay file schedule) bytes images line = LacksRoom bytes images line
LacksHostRoom _ bytes images line = Never line

-- a line of the schedule is no step that is enabled in its turn
abbrev pub LacksStep : Sentence → Inputs → List ℕ → Type 0
LacksStep (Replay file schedule) inputs line = IsScheduleRefused inputs.text inputs.more line
LacksStep _ inputs line = Never line

-- what the command can take: a topology text, one whose programs fit their hosts, such a one with a schedule of steps that
-- are enabled in their turn, or a source that is assembled
abbrev pub Accepts : Sentence → Inputs → Type 0
Accepts (Check file) inputs = (t : Topology) × IsTopologyText inputs.text t
Accepts (Model file stats) inputs = OfTopology inputs.text (λ t. too_long t inputs.more ≡ None)
Accepts (Serial file stats) inputs = OfTopology inputs.text (λ t. too_long t inputs.more ≡ None)
Accepts (Replay file schedule) inputs = CanReplay inputs.text inputs.more
Accepts (Asm file) inputs = (program : List ℕ) × IsAssembled inputs.text program
