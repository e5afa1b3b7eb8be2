-- What is so of each host, whatever it has done.
use Rattle.std.specs.Prelude.{ℕ, ◌≡◌, ◌≢◌, ◌<◌, false, List, [], length, All, Option, Some, None}
use Rattle.device_api.specs.Behaviour.{IsNotPast}
use Rattle.rv32_core.specs.declared.pending.Pending.{Pending}
use Rattle.rv32_core.specs.declared.pending.Pending.TheVariants as access
use Rattle.rv32_core.specs.CoreState.{CoreState}
use Rattle.rv32_core.specs.Execution.{wakes}
use Rattle.ram_map.specs.declared.map.Map.{Map}
use Rattle.ram_map.specs.declared.place.Place.{Place}
use Rattle.ram_map.specs.declared.place.Place.TheVariants as place
use Rattle.ram_map.specs.Places.{placed}
use Rattle.host_sim.specs.declared.state.HostState.{HostState}
use Rattle.host_sim.specs.declared.state.HostState.TheVariants.{Due, Access, Asleep, Halted}
use Rattle.host_sim.specs.Machine.{Machine, due_of}
use Rattle.host_sim.specs.Arrivals.{is_any_high}

-- the console keeps fewer than 120 bytes, none of them a line feed
pub record IsUnended (kept : List ℕ) : Type 0 where
  pub short : length kept < 120
  pub one_line : All (λ (byte : ℕ). byte ≢ 0x0A) kept

-- the port of the device at a place
abbrev pub port_at : Place → Option ℕ
port_at (place.Bar port offset) = Some port
port_at (place.Window port offset) = Some port
port_at _ = None

-- the port of the device whose BAR or window an access goes to
abbrev pub port_asked : Map → Pending → Option ℕ
port_asked m access.Nothing = None
port_asked m (access.Load address size rd is_signed) = port_at (placed m address)
port_asked m (access.Store address size value) = port_at (placed m address)

-- what a host waits for fits the rest of it: an access is pending exactly where it waits for a completion, which is one
-- that it asked for, at that port; it sleeps only where no interrupt wakes it; and its console is empty once it has halted
abbrev pub Fits : Map → CoreState → (next_id : ℕ) → (kept : List ℕ) → HostState → Type 0
Fits m core next_id kept (Due t) = core.pending ≡ access.Nothing
Fits m core next_id kept (Access port id) = (port_asked m core.pending ≡ Some port) × (id < next_id)
Fits m core next_id kept Asleep = (core.pending ≡ access.Nothing) × (wakes core ≡ false)
Fits m core next_id kept Halted = (core.pending ≡ access.Nothing) × (kept ≡ [])

abbrev pub AllFits : Machine → Type 0
AllFits s = Fits s.map s.core s.next_id s.kept s.phase

-- RAM has its size, there is a level for each PCIe port, and the external line is high where one of them is
pub record IsWhole (s : Machine) : Type 0 where
  pub ram : length s.ram ≡ s.map.ram
  pub levels : length s.levels ≡ s.map.pcie
  pub line : s.core.external ≡ is_any_high s.levels
  pub kept : IsUnended s.kept

pub record IsSound (s : Machine) : Type 0 where
  pub whole : IsWhole s
  pub fits : AllFits s

-- a host may stand so before all events at a time
pub record StandsAt (at : ℕ) (s : Machine) : Type 0 where
  pub sound : IsSound s
  pub not_past : IsNotPast at (due_of s.phase)
