-- The filtering database without places: a map from the addresses of stations to where and when they were seen.
use Rattle.std.specs.Prelude.{ℕ, ◌≡◌, ◌≤◌, ◌-◌, Bool, ◌&&◌, nat_lt, List, find, count_by, bytes_eq, Option, Some, None, if◌then◌else◌}
use Rattle.cs_base.specs.Names.{is_individual}
use Rattle.switch_sim.specs.declared.entry.Entry.{Entry}
use Rattle.switch_sim.specs.Table.{SwitchState, is_live, is_of, lookup, others_live}

-- at which port a station was seen, and when
pub record Sighting : Type 0 where
  pub port : ℕ
  pub time : ℕ

-- a sighting that has not aged out at t
abbrev pub aged : ℕ → ℕ → Option Sighting → Option Sighting
aged age t None = None
aged age t (Some x) = if nat_lt (t - x.time) age then Some x else None

abbrev pub sighting_in : Entry → Sighting
sighting_in e = record { port = e.port; time = e.seen }

abbrev pub sighting : Option Entry → Option Sighting
sighting None = None
sighting (Some e) = Some (sighting_in e)

-- what a switch knows of a station at t
abbrev pub known_at : SwitchState → ℕ → List ℕ → Option Sighting
known_at s t mac = aged s.age t (sighting (find (is_of mac) s.entries))

abbrev pub port_of : Option Sighting → Option ℕ
port_of None = None
port_of (Some x) = Some x.port

-- how many stations a switch knows at t
abbrev pub live_count : SwitchState → ℕ → ℕ
live_count s t = count_by (is_live s t) s.entries

-- whether a station may become known: its address is individual, and fewer than 4,096 others are known
abbrev pub may_be_known : SwitchState → ℕ → List ℕ → Bool
may_be_known s t mac = is_individual mac && nat_lt (others_live s t mac) 4096

-- what is known of each station once the source of a frame was seen at a port at t
abbrev pub known_then : SwitchState → ℕ → List ℕ → ℕ → List ℕ → Option Sighting
known_then s t from port mac = if may_be_known s t from && bytes_eq mac from then aged s.age t (Some (record { port = port; time = t })) else known_at s t mac

-- the switch as a map
pub record IsMap (s : SwitchState) (t : ℕ) : Type 0 where
  -- it has no more than 4,096 stations
  pub few : live_count s t ≤ 4096
  -- a station is looked up in it
  pub looked_up : (mac : List ℕ) → lookup s t mac ≡ port_of (known_at s t mac)
  -- what is known later is what has not aged out by then
  pub later : (u : ℕ) (mac : List ℕ) → t ≤ u → known_at s u mac ≡ aged s.age u (known_at s t mac)
