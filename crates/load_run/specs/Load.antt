-- What `load` writes of the system that a number of stations makes.
use Rattle.std.specs.Prelude.{ℕ, ◌≡◌, List, replicate, Ok}
use Rattle.device_api.specs.World.{Network, global_until, logs_of}
use Rattle.device_api.specs.GlobalCounts.{counts_of}
use Rattle.device_set.specs.declared.any_device.AnyDevice.{AnyDevice}
use Rattle.device_set.specs.AnyKind.{any_device}
use Rattle.device_set.specs.Starts.{starts_of}
use Rattle.rv32_asm.specs.Assembled.{assembled}
use Rattle.load_gen.specs.Load.{IsLoad}
use Rattle.load_gen.specs.Ping.{ping_source}
use Rattle.topology_file.specs.declared.topology.Topology.{Topology}
use Rattle.topology_file.specs.Full.{full}
use Rattle.topology_file.specs.Reading.{IsDocument, IsTopologyText}
use Rattle.load_run.specs.Summary.{summary}

-- the devices of a topology, each host with the same program, and the links between them
abbrev pub network_of : Topology → (stations : ℕ) → (program : List ℕ) → Network AnyDevice
network_of t stations program = record { behaviour = any_device; starts = starts_of t.components (replicate stations program); links = t.wiring.links }

-- the summary of a network's global run until the end of its topology
abbrev pub summary_of : ℕ → Topology → Network AnyDevice → List ℕ
summary_of stations t net = summary stations t (logs_of (global_until net t.wiring.end)) (counts_of net t.wiring.end)

-- the text is the summary of the global run of the system of so many stations, whose hosts run the pinging program
pub record IsSummary (stations : ℕ) (text : List ℕ) : Type 0 where
  pub topology : Topology
  pub generated : IsLoad stations topology
  pub program : List ℕ
  pub assembled_is : assembled ping_source ≡ Ok program
  pub text_is : text ≡ summary_of stations topology (network_of topology stations program)

-- the text is a document of the full table of the system of so many stations, and is a topology file of that system
pub record IsLoadText (stations : ℕ) (text : List ℕ) : Type 0 where
  pub topology : Topology
  pub generated : IsLoad stations topology
  pub in_full : IsDocument text (full topology)
  pub spelled : IsTopologyText text topology
