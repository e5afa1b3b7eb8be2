-- The ports that a component is set up with, and what makes components and a wiring a topology.
use Rattle.std.specs.Prelude.{ℕ, ◌≡◌, Bool, true, not, ◌&&◌, List, [], ◌∷◌, ◌++◌, map, replicate}
use Rattle.std.specs.List.{list_any}
use Rattle.std.specs.Str.{bytes_eq}
use Rattle.cs_base.specs.declared.port_kind.PortKind.{PortKind}
use Rattle.cs_base.specs.declared.port_kind.PortKind.TheVariants.{Eth, PcieDev, PcieHost, MemDev, MemHost}
use Rattle.topology_file.specs.declared.config.Config.{Config}
use Rattle.topology_file.specs.declared.config.Config.TheVariants.{Beacon, Switch, Memory, Host, Nic}
use Rattle.topology_file.specs.declared.component.Component.{Component}

-- a host's PCIe ports come before its memory ports, an adapter's PCIe port before its Ethernet port
abbrev pub ports_of : Config → List PortKind
ports_of (Beacon c) = Eth ∷ []
ports_of (Switch c) = replicate c.ports Eth
ports_of (Memory c) = MemDev ∷ []
ports_of (Host c) = replicate c.pcie PcieHost ++ replicate c.mem MemHost
ports_of (Nic c) = PcieDev ∷ Eth ∷ []

abbrev pub kinds_of : List Component → List (List PortKind)
kinds_of components = map (λ (c : Component). ports_of c.config) components

abbrev pub names_of : List Component → List (List ℕ)
names_of components = map (λ (c : Component). c.name) components

-- a name is among others
abbrev pub is_among : List ℕ → List (List ℕ) → Bool
is_among name names = list_any (bytes_eq name) names

-- no name is among those before it
abbrev pub are_new : List (List ℕ) → List (List ℕ) → Bool
are_new earlier [] = true
are_new earlier (name ∷ names) = not (is_among name earlier) && are_new (earlier ++ name ∷ []) names

pub record IsTopology (components : List Component) (kinds : List (List PortKind)) : Type 0 where
  pub names_differ : are_new [] (names_of components) ≡ true
  pub kinds_of_ports : kinds ≡ kinds_of components
