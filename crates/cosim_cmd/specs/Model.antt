-- What `model` and `serial` write: the joined log of the global run of the topology that the file spells, and its statistics.
use Rattle.std.specs.Prelude.{ℕ, ◌≡◌, ◌++◌, if◌then◌else◌, Bool, List, slice_get, None, Some, ⊤}
use Rattle.cs_base.specs.Outside.{FilesSeen}
use Rattle.device_api.specs.World.{Network, global_until, logs_of}
use Rattle.device_api.specs.GlobalCounts.{counts_of}
use Rattle.channel_stats.specs.Statistics.{statistics}
use Rattle.device_api.specs.Joined.{joined_until}
use Rattle.topology_file.specs.declared.component.Component.{Component}
use Rattle.topology_file.specs.declared.topology.Topology.{Topology}
use Rattle.topology_file.specs.Ports.{names_of}
use Rattle.topology_file.specs.Reading.{IsTopologyText}
use Rattle.device_set.specs.declared.any_device.AnyDevice.{AnyDevice}
use Rattle.device_set.specs.AnyKind.{any_device}
use Rattle.device_set.specs.Starts.{starts_of, too_long, AreStarted}
use Rattle.cosim_cmd.specs.Inputs.{AreImages, AsksNothing, OfRead, IsUnreadOf}
use Rattle.cosim_cmd.specs.Lines.{image_line}
use Rattle.cosim_cmd.specs.NoTopology.{IsNoTopology}
use Rattle.cosim_cmd.specs.declared.refusal.OutputBad.{OutputBad}
use Rattle.cosim_cmd.specs.declared.refusal.OutputBad.TheVariants as bad

-- devices and the links between them
abbrev pub network_of : Topology → List AnyDevice → Network AnyDevice
network_of t devices = record { behaviour = any_device; starts = devices; links = t.wiring.links }

-- the joined log of the global run of these devices, as text
abbrev pub joined_log : Topology → List AnyDevice → List ℕ
joined_log t devices = joined_until t.wiring.end (names_of t.components) (logs_of (global_until (network_of t devices) t.wiring.end))

-- the statistics of that run
abbrev pub run_statistics : Topology → List AnyDevice → List ℕ
run_statistics t devices = statistics (names_of t.components) t.wiring.links (counts_of (network_of t devices) t.wiring.end)

-- the joined log, and where they are asked for, the statistics after it
abbrev pub run_text : Bool → Topology → List AnyDevice → List ℕ
run_text stats t devices = if stats then joined_log t devices ++ run_statistics t devices else joined_log t devices

-- the programs fit their hosts, and these are the devices at their start
pub record AreReady (t : Topology) (images : List (List ℕ)) (devices : List AnyDevice) : Type 0 where
  pub fit : too_long t images ≡ None
  pub started : AreStarted t images devices

-- the programs fit their hosts, and the text is that of the run of the topology's devices from their start
pub record IsLogged (stats : Bool) (t : Topology) (images : List (List ℕ)) (text : List ℕ) : Type 0 where
  pub fit : too_long t images ≡ None
  pub joined : text ≡ run_text stats t (starts_of t.components images)

-- the line is about the host with this number
pub record IsHostLine (t : Topology) (number : ℕ) (line : List ℕ) : Type 0 where
  pub host : Component
  pub host_is : slice_get t.components number ≡ Some host
  pub named : line ≡ image_line host.name

-- a program is too long, and the line names the first host of which it is
pub record IsTooLong (t : Topology) (images : List (List ℕ)) (line : List ℕ) : Type 0 where
  pub number : ℕ
  pub too_long_is : too_long t images ≡ Some number
  pub named : IsHostLine t number line

-- a topology text, and of its topology a fact holds
pub record OfTopology (bytes : List ℕ) (P : Topology → Type 0) : Type 0 where
  pub topology : Topology
  pub spelled : IsTopologyText bytes topology
  pub fact : P topology

-- the text is that of the run of a topology text with these programs
abbrev pub IsModelled : Bool → List ℕ → List (List ℕ) → List ℕ → Type 0
IsModelled stats bytes images text = OfTopology bytes (λ t. IsLogged stats t images text)

abbrev pub LacksRoom : List ℕ → List (List ℕ) → List ℕ → Type 0
LacksRoom bytes images line = OfTopology bytes (λ t. IsTooLong t images line)

-- ---- with the programs of hosts, which are read after the topology

-- why the system of a text can't be run
abbrev pub IsModelBad : List ℕ → FilesSeen → FilesSeen → OutputBad → Type 0
IsModelBad bytes before after bad.NoMemory = ⊤
IsModelBad bytes before after (bad.Topology line) = IsNoTopology bytes line × AsksNothing before after
IsModelBad bytes before after (bad.File line) = IsUnreadOf (AreImages bytes) before after line
IsModelBad bytes before after (bad.Image line) = OfRead (AreImages bytes) before after (λ images. LacksRoom bytes images line)
IsModelBad bytes before after (bad.Broken cause line) = ⊥
IsModelBad bytes before after (bad.Schedule line) = ⊥
IsModelBad bytes before after (bad.Asm line) = ⊥
