-- What a host is: its core, its RAM, what its console has kept, its clock, and what it waits for.
use Rattle.std.specs.Prelude.{ℕ, ◌+◌, ◌≤◌, Bool, false, List, [], ◌++◌, replicate, Option, Some, None}
use Rattle.std.proofs.Common.{arith}
use Rattle.cs_base.specs.declared.configs.HostConfig.{HostConfig}
use Rattle.cs_base.specs.declared.port_kind.PortKind.{PortKind}
use Rattle.cs_base.specs.declared.port_kind.PortKind.TheVariants.{PcieHost, MemHost}
use Rattle.rv32_core.specs.CoreState.{CoreState, started}
use Rattle.ram_map.specs.Contents.{filled}
use Rattle.ram_map.specs.Sizes.{IsMap}
use Rattle.ram_map.specs.declared.map.Map.{Map}
use Rattle.host_sim.specs.declared.state.HostState.{HostState}
use Rattle.host_sim.specs.declared.state.HostState.TheVariants.{Due, Access, Asleep, Halted}

-- the number of ticks is kept modulo 2^64; ids count the host's own accesses; there is a level for each PCIe port;
-- `cycle` is the time from instruction to instruction
pub record Machine : Type 0 where
  pub core : CoreState
  pub ram : List ℕ
  pub kept : List ℕ
  pub ticks : ℕ
  pub next_id : ℕ
  pub phase : HostState
  pub levels : List Bool
  pub cycle : ℕ
  pub map : Map

pub map_valid : (config : HostConfig) → IsMap config.ram config.pcie config.mem
map_valid config =
    let few : config.pcie + config.mem ≤ 32 = config.valid.few_ports in
    record { some_ram = config.valid.ram_in_range; few_bars = omega arith; few_windows = omega arith }

abbrev pub map_of : HostConfig → Map
map_of config = record { ram = config.ram; pcie = config.pcie; mem = config.mem; valid = map_valid config }

-- a host at its start, due at once
abbrev pub started_with : HostConfig → List ℕ → Machine
started_with config image = record {
  core = started config.hart;
  ram = filled config.ram image;
  kept = [];
  ticks = 0;
  next_id = 0;
  phase = Due 0;
  levels = replicate config.pcie false;
  cycle = config.cycle;
  map = map_of config;
}

-- first the PCIe ports, then the memory ports
abbrev pub ports_of : Map → List PortKind
ports_of m = replicate m.pcie PcieHost ++ replicate m.mem MemHost

abbrev pub due_of : HostState → Option ℕ
due_of (Due t) = Some t
due_of (Access port id) = None
due_of Asleep = None
due_of Halted = None

-- it is due one cycle after t
abbrev pub due_after : Machine → ℕ → Machine
due_after s t = record s { phase = Due (t + s.cycle) }

abbrev pub with_core : Machine → CoreState → Machine
with_core s core = record s { core = core }
