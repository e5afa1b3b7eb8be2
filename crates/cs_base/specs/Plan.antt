-- How components are joined: ends, links, and what makes a plan of links a wiring.
use Rattle.std.specs.Prelude.{ℕ, ◌≡◌, ◌+◌, ◌≤◌, ◌<◌, ◌^◌, Bool, ◌&&◌, ◌==◌, List, length, All, if◌then◌else◌, sum_by, slice_get, Option, option_and_then, option_map, is_some, true, false}
use Rattle.cs_base.specs.declared.port_kind.PortKind.{PortKind}
use Rattle.cs_base.specs.declared.port_kind.PortKind.TheVariants.{Eth, PcieDev, PcieHost, MemDev, MemHost}
use Rattle.cs_base.specs.declared.link.Link.{Link}

-- the kind at the other end of a link: Eth joins Eth, a device joins its host
abbrev pub partner : PortKind → PortKind
partner Eth = Eth
partner PcieDev = PcieHost
partner PcieHost = PcieDev
partner MemDev = MemHost
partner MemHost = MemDev

-- whether a link may join ports of these kinds: each is the other's partner
abbrev pub joins : PortKind → PortKind → Bool
joins Eth Eth = true
joins PcieDev PcieHost = true
joins PcieHost PcieDev = true
joins MemDev MemHost = true
joins MemHost MemDev = true
joins _ _ = false

-- one end of a link: a port of a component, both counted from 0
pub record End : Type 0 where
  pub component : ℕ
  pub port : ℕ

abbrev pub same_end : End → End → Bool
same_end x y = (x.component == y.component) && (x.port == y.port)

abbrev pub first_end : Link → End
first_end link = record { component = link.a; port = link.a_port }

abbrev pub second_end : Link → End
second_end link = record { component = link.b; port = link.b_port }

-- how many ends of a link are at a port, and how many ends of all links
abbrev pub uses_in : Link → End → ℕ
uses_in link end = (if same_end end (first_end link) then 1 else 0) + (if same_end end (second_end link) then 1 else 0)

abbrev pub uses_of : List Link → End → ℕ
uses_of links end = sum_by (λ link. uses_in link end) links

-- the kind of the port at an end; None where there is no such port
abbrev pub kind_at : List (List PortKind) → End → Option PortKind
kind_at kinds end = option_and_then (λ ports. slice_get ports end.port) (slice_get kinds end.component)

-- a link within the limits; its interval is at most its latency
pub record IsWithinLimits (link : Link) : Type 0 where
  pub short_latency : link.latency ≤ 10 ^ 12
  pub some_interval : 1 ≤ link.interval
  pub interval_in_latency : link.interval ≤ link.latency
  pub some_slot : 1 ≤ link.slots
  pub few_slots : link.slots ≤ 1024

-- a link joins a port to a port of the partner's kind
pub record JoinsKinds (kinds : List (List PortKind)) (link : Link) : Type 0 where
  pub from_port : is_some (kind_at kinds (first_end link)) ≡ true
  pub to_partner : kind_at kinds (second_end link) ≡ option_map partner (kind_at kinds (first_end link))

pub record Joins (kinds : List (List PortKind)) (link : Link) : Type 0 where
  pub limits : IsWithinLimits link
  pub ports : JoinsKinds kinds link

-- the time, the components and their ports are within the limits
pub record IsSized (end : ℕ) (kinds : List (List PortKind)) (links : List Link) : Type 0 where
  pub some_time : 1 ≤ end
  pub short_time : end ≤ 10 ^ 15
  pub some_component : 1 ≤ length kinds
  pub few_components : length kinds ≤ 64
  pub few_ports : All (λ (ports : List PortKind). length ports ≤ 32) kinds
  pub few_links : length links ≤ 1024

-- each of the first so many ports of a component is in exactly one link
abbrev pub PortsInOneLink : List Link → ℕ → ℕ → Type 0
PortsInOneLink links component count = (port : ℕ) → port < count → uses_of links (record { component = component; port = port }) ≡ 1

-- each port is in exactly one link
abbrev pub InOneLink : List (List PortKind) → List Link → Type 0
InOneLink kinds links = (end : End) → is_some (kind_at kinds end) ≡ true → uses_of links end ≡ 1

-- the links join the ports of the components, each port exactly once, within the limits
pub record IsPlan (end : ℕ) (kinds : List (List PortKind)) (links : List Link) : Type 0 where
  pub sized : IsSized end kinds links
  pub links_join : All (Joins kinds) links
  pub in_one_link : InOneLink kinds links
