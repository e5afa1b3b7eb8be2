-- The full table of a topology: each key that an entry may have, the defaults included, with its value.
use Rattle.std.specs.Prelude.{ℕ, pos, List, [], ◌∷◌, map, fold, codes, get_or}
use Rattle.std.specs.Ordering.{nat_cmp, match_ordering}
use Rattle.std.specs.Cmp.Lexicographic.{slice_cmp}
use Rattle.toml.specs.Data.{Data, string, integer, array, table, Members, no_members, member}
use Rattle.toml.specs.View.{items_of}
use Rattle.cs_base.specs.Texts.{mac_text}
use Rattle.cs_base.specs.declared.beacon_config.BeaconConfig.{BeaconConfig}
use Rattle.cs_base.specs.declared.configs.SwitchConfig.{SwitchConfig}
use Rattle.cs_base.specs.declared.configs.MemoryConfig.{MemoryConfig}
use Rattle.cs_base.specs.declared.configs.HostConfig.{HostConfig}
use Rattle.cs_base.specs.declared.configs.NicConfig.{NicConfig}
use Rattle.cs_base.specs.declared.link.Link.{Link}
use Rattle.cs_base.specs.declared.port_kind.Via.{Via}
use Rattle.cs_base.specs.declared.port_kind.Via.TheVariants.{Queue, Proxy}
use Rattle.topology_file.specs.declared.config.Config.{Config}
use Rattle.topology_file.specs.declared.config.Config.TheVariants.{Beacon, Switch, Memory, Host, Nic}
use Rattle.topology_file.specs.declared.component.Component.{Component}
use Rattle.topology_file.specs.declared.topology.Topology.{Topology}
use Rattle.topology_file.specs.declared.key.Key.{Key}
use Rattle.topology_file.specs.declared.key.Key.TheVariants as key
use Rattle.topology_file.specs.Keys.{row}
use Rattle.topology_file.specs.Ports.{names_of}

-- the values
abbrev pub number : ℕ → Data
number n = integer (pos n)

abbrev pub address : List ℕ → Data
address mac = string (mac_text mac)

abbrev pub entries : List Data → Data
entries ds = array (items_of ds)

-- a table with a further key; the keys of a table ascend
abbrev pub put : List ℕ → Data → Members → Members
put text d no_members = member text d no_members
put text d (member other e rest) =
    match_ordering (slice_cmp nat_cmp text other) (member text d (member other e rest)) (member other d rest) (member other e (put text d rest))

-- a key with its value
abbrev pub Pair : Type 0
Pair = Key × Data

abbrev pub with_pair : Members → Pair → Members
with_pair members pair = put (row pair.0).text pair.1 members

-- a table with further keys
abbrev pub with_pairs : Members → List Pair → Members
with_pairs members pairs = fold with_pair members pairs

abbrev pub members_of : List Pair → Members
members_of pairs = with_pairs no_members pairs

-- ---- a component

abbrev pub beacon_pairs : BeaconConfig → List Pair
beacon_pairs c =
    (key.First, number c.first) ∷ (key.Period, number c.period) ∷ (key.Count, number c.count) ∷ (key.Length, number c.length) ∷ (key.To, address c.to) ∷ (key.From, address c.from) ∷ []

abbrev pub switch_pairs : SwitchConfig → List Pair
switch_pairs c = (key.Ports, number c.ports) ∷ (key.Age, number c.age) ∷ []

abbrev pub memory_pairs : MemoryConfig → List Pair
memory_pairs c = (key.Size, number c.size) ∷ []

abbrev pub host_pairs : HostConfig → List Pair
host_pairs c =
    (key.Ram, number c.ram) ∷ (key.Cycle, number c.cycle) ∷ (key.Pcie, number c.pcie) ∷ (key.Mem, number c.mem) ∷ (key.Hart, number c.hart) ∷ (key.Image, string c.image) ∷ []

abbrev pub nic_pairs : NicConfig → List Pair
nic_pairs c = (key.Mac, address c.mac) ∷ []

abbrev pub config_pairs : Config → List Pair
config_pairs (Beacon c) = beacon_pairs c
config_pairs (Switch c) = switch_pairs c
config_pairs (Memory c) = memory_pairs c
config_pairs (Host c) = host_pairs c
config_pairs (Nic c) = nic_pairs c

abbrev pub kind_text : Config → List ℕ
kind_text (Beacon c) = codes "beacon"
kind_text (Switch c) = codes "switch"
kind_text (Memory c) = codes "memory"
kind_text (Host c) = codes "host"
kind_text (Nic c) = codes "nic"

abbrev pub component_pairs : Component → List Pair
component_pairs c = (key.Name, string c.name) ∷ (key.Kind, string (kind_text c.config)) ∷ config_pairs c.config

abbrev pub full_component : Component → Data
full_component c = table (members_of (component_pairs c))

-- ---- a link, among components of these names

abbrev pub via_text : Via → List ℕ
via_text Queue = codes "queue"
via_text Proxy = codes "proxy"

abbrev pub link_pairs : List (List ℕ) → Link → List Pair
link_pairs names link =
    (key.A, string (get_or names link.a [])) ∷ (key.APort, number link.a_port) ∷ (key.B, string (get_or names link.b [])) ∷ (key.BPort, number link.b_port) ∷ (key.Latency, number link.latency) ∷ (key.Interval, number link.interval) ∷ (key.Slots, number link.slots) ∷ (key.Via, string (via_text link.via)) ∷ []

abbrev pub full_link : List (List ℕ) → Link → Data
full_link names link = table (members_of (link_pairs names link))

-- ---- the document

abbrev pub full_pairs : Topology → List Pair
full_pairs t =
    (key.Version, number 1) ∷ (key.End, number t.wiring.end) ∷ (key.Components, entries (map full_component t.components)) ∷ (key.Links, entries (map (full_link (names_of t.components)) t.wiring.links)) ∷ []

abbrev pub full : Topology → Members
full t = members_of (full_pairs t)
