-- Switches as parts: the entries that are kept of one, and the switch of a configuration that parts make.
use Rattle.std.specs.Prelude.{ℕ, ◌≡◌, ◌≤◌, ◌&&◌, nat_lt, Bool, true, List, [], length, filter, All, AllPairs}
use Rattle.std.specs.Ordering.{nat_cmp}
use Rattle.std.specs.declared.cmp.Ordering.TheVariants.{Less}
use Rattle.std.specs.Cmp.Lexicographic.{slice_cmp}
use Rattle.cs_base.specs.Names.{is_individual}
use Rattle.cs_base.specs.declared.configs.SwitchConfig.{SwitchConfig}
use Rattle.switch_sim.specs.declared.entry.Entry.{Entry}
use Rattle.switch_sim.specs.declared.parts.SwitchParts.{SwitchParts}
use Rattle.switch_sim.specs.Table.{SwitchState, started, is_live}

-- the entries that are live at a time
abbrev pub live_entries : SwitchState → ℕ → List Entry
live_entries s at = filter (is_live s at) s.entries

-- entries in the order of their addresses, byte by byte, one entry for each address
abbrev pub Ascend : List Entry → Type 0
Ascend entries = AllPairs (λ (e other : Entry). slice_cmp nat_cmp e.mac other.mac ≡ Less) entries

-- a switch of a configuration with the entries of parts
abbrev pub resumed : SwitchConfig → SwitchParts → SwitchState
resumed config parts = record (started config) { entries = parts.entries }

-- the switch was started with this configuration
abbrev pub IsOf : SwitchConfig → SwitchState → Type 0
IsOf config s = record s { entries = [] } ≡ started config

-- whether a switch may have an entry live at `at`, before all events then: of an individual address, which was seen
-- before `at` at a port that exists
abbrev pub may_have : SwitchState → ℕ → Entry → Bool
may_have s at e = is_individual e.mac && nat_lt e.port s.ports && nat_lt e.seen at && is_live s at e

-- a switch may stand so before all events at `at`, with live entries alone and these in order
pub record StandsAt (at : ℕ) (s : SwitchState) : Type 0 where
  pub few : length s.entries ≤ 4096
  pub ascend : Ascend s.entries
  pub live : All (λ (e : Entry). may_have s at e ≡ true) s.entries
