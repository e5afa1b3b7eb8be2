-- Which values the keys of a component may have.
use Rattle.std.specs.Prelude.{ℕ, ◌≡◌, ◌≤◌, ◌+◌, ◌%◌, ◌^◌, List, length, true}
use Rattle.cs_base.specs.Names.{is_individual}

pub record IsBeacon (first period count length : ℕ) (from : List ℕ) : Type 0 where
  pub first_in_time : first ≤ 10 ^ 15
  pub some_period : 1 ≤ period
  pub period_in_time : period ≤ 10 ^ 15
  pub few : count ≤ 10 ^ 9
  pub a_frame : 14 ≤ length
  pub no_jumbo : length ≤ 1514
  pub individual : is_individual from ≡ true

pub record IsSwitch (ports age : ℕ) : Type 0 where
  pub few_ports : ports ≤ 32
  pub some_age : 1 ≤ age
  pub age_in_time : age ≤ 10 ^ 15

pub record IsMemory (size : ℕ) : Type 0 where
  pub some_byte : 1 ≤ size
  pub in_window : size ≤ 16777216

pub record IsHost (ram cycle pcie mem : ℕ) (image : List ℕ) : Type 0 where
  pub some_ram : 65536 ≤ ram
  pub ram_in_range : ram ≤ 16777216
  pub whole_words : ram % 4 ≡ 0
  pub some_cycle : 1 ≤ cycle
  pub short_cycle : cycle ≤ 10 ^ 9
  pub few_ports : pcie + mem ≤ 32
  pub named_image : 1 ≤ length image
  pub short_image : length image ≤ 255
