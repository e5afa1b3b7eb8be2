-- The system that `load` makes of a number of stations: hosts with an adapter each, on two switches in turn.
use Rattle.std.specs.Prelude.{ℕ, ◌≡◌, ◌+◌, ◌*◌, ◌/◌, ◌%◌, List, [], ◌∷◌, ◌++◌, map, codes, decimal}
use Rattle.std.specs.List.{range_with_len}
use Rattle.cs_base.specs.declared.link.Link.{Link}
use Rattle.cs_base.specs.declared.port_kind.Via.TheVariants.{Queue}
use Rattle.topology_file.specs.declared.config.Config.{Config}
use Rattle.topology_file.specs.declared.config.Config.TheVariants as config
use Rattle.topology_file.specs.declared.component.Component.{Component}
use Rattle.topology_file.specs.declared.topology.Topology.{Topology}

-- ---- components

-- what a component is set up with, as far as such a system has its like
pub data Setup : Type 0 where
  Host : (ram cycle pcie mem hart : ℕ) (image : List ℕ) → Setup
  Nic : (mac : List ℕ) → Setup
  Switch : (ports age : ℕ) → Setup
  Beacon : Setup
  Memory : Setup

abbrev pub setup_of : Config → Setup
setup_of (config.Host c) = Host c.ram c.cycle c.pcie c.mem c.hart c.image
setup_of (config.Nic c) = Nic c.mac
setup_of (config.Switch c) = Switch c.ports c.age
setup_of (config.Beacon c) = Beacon
setup_of (config.Memory c) = Memory

pub record Member : Type 0 where
  pub name : List ℕ
  pub setup : Setup

abbrev pub member_of : Component → Member
member_of c = record { name = c.name; setup = setup_of c.config }

-- the numbers below n
abbrev pub below : ℕ → List ℕ
below n = range_with_len 0 n

-- how many stations are at the first switch and at the second
abbrev pub at_first : ℕ → ℕ
at_first n = (n + 1) / 2

abbrev pub at_second : ℕ → ℕ
at_second n = n / 2

abbrev pub host : ℕ → Member
host i = record { name = codes "h" ++ decimal i; setup = Host 65536 10000 1 0 i (codes "ping.bin") }

abbrev pub adapter : ℕ → Member
adapter i = record { name = codes "n" ++ decimal i; setup = Nic (2 ∷ 0 ∷ 0 ∷ 0 ∷ 0 ∷ i ∷ []) }

abbrev pub switch : List ℕ → ℕ → Member
switch name ports = record { name = name; setup = Switch ports 300000000000000 }

abbrev pub first_switch : ℕ → Member
first_switch n = switch (codes "s" ++ decimal 0) (at_first n + 1)

abbrev pub second_switch : ℕ → Member
second_switch n = switch (codes "s" ++ decimal 1) (at_second n + 1)

abbrev pub members : ℕ → List Member
members n = map host (below n) ++ map adapter (below n) ++ first_switch n ∷ second_switch n ∷ []

-- ---- links

abbrev pub link_between : (a a_port b b_port latency : ℕ) → Link
link_between a a_port b b_port latency = record {
  a = a;
  a_port = a_port;
  b = b;
  b_port = b_port;
  latency = latency;
  interval = latency;
  slots = 64;
  via = Queue;
}

-- a host and its adapter; an adapter and its switch; the switches
abbrev pub bus : ℕ → ℕ → Link
bus n i = link_between i 0 (n + i) 0 500000

abbrev pub cable : ℕ → ℕ → Link
cable n i = link_between (n + i) 1 (2 * n + i % 2) (i / 2) 1000000

abbrev pub trunk : ℕ → Link
trunk n = link_between (2 * n) (at_first n) (2 * n + 1) (at_second n) 1000000

abbrev pub links : ℕ → List Link
links n = map (bus n) (below n) ++ map (cable n) (below n) ++ trunk n ∷ []

-- the system of n stations
pub record IsLoad (n : ℕ) (t : Topology) : Type 0 where
  pub members_are : map member_of t.components ≡ members n
  pub links_are : t.wiring.links ≡ links n
  pub end_is : t.wiring.end ≡ 100000000
