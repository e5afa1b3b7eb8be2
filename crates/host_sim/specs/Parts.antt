-- Hosts as parts: what is kept of one, and the host of a configuration that parts make.
use Rattle.std.specs.Prelude.{ℕ, ◌≡◌}
use Rattle.cs_base.specs.declared.configs.HostConfig.{HostConfig}
use Rattle.rv32_core.specs.Parts.{IsValid, core_of, parts_of}
use Rattle.host_sim.specs.declared.parts.HostParts.{HostParts}
use Rattle.host_sim.specs.Machine.{Machine, map_of}
use Rattle.host_sim.specs.Sound.{StandsAt}

-- a host of a configuration with these parts
abbrev pub resumed : HostConfig → HostParts → Machine
resumed config parts = record {
  core = core_of config.hart parts.core;
  ram = parts.ram;
  kept = parts.console;
  ticks = parts.ticks;
  next_id = parts.next_id;
  phase = parts.state;
  levels = parts.levels;
  cycle = config.cycle;
  map = map_of config;
}

abbrev pub host_parts : Machine → HostParts
host_parts s = record {
  core = parts_of s.core;
  ram = s.ram;
  ticks = s.ticks;
  next_id = s.next_id;
  state = s.phase;
  levels = s.levels;
  console = s.kept;
}

-- a host of the configuration may have these parts before all events at a time
pub record IsValidAt (config : HostConfig) (at : ℕ) (parts : HostParts) : Type 0 where
  pub core : IsValid parts.core
  pub stands : StandsAt at (resumed config parts)

-- the host has the configuration's sizes, cycle and hart
pub record IsOf (config : HostConfig) (s : Machine) : Type 0 where
  pub map : s.map ≡ map_of config
  pub cycle : s.cycle ≡ config.cycle
  pub hart : s.core.hart ≡ config.hart
