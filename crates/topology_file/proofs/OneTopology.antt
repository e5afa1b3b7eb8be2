-- A text spells one topology.
use Rattle.std.proofs.Common.{ℕ, ◌≡◌, ◌^◌, true, List, [], ◌∷◌, Some, refl, sym, ap, ap₂, subst, ◌∙◌}
use Rattle.std.proofs.Props.{props}
use Rattle.std.specs.List.{AllZip}
use Rattle.toml.specs.Data.{Data, Members, table}
use mathlib.Core.HLevel.{is_prop→PathP}
use Rattle.cs_base.specs.Names.{is_individual}
use Rattle.cs_base.specs.Configs.{IsBeacon, IsSwitch, IsMemory, IsHost}
use Rattle.cs_base.specs.Plan.{IsPlan}
use Rattle.cs_base.specs.declared.link.Link.{Link}
use Rattle.cs_base.specs.declared.port_kind.PortKind.{PortKind}
use Rattle.cs_base.specs.declared.wiring.Wiring.{Wiring}
use Rattle.cs_base.specs.declared.beacon_config.BeaconConfig.{BeaconConfig}
use Rattle.cs_base.specs.declared.configs.SwitchConfig.{SwitchConfig}
use Rattle.cs_base.specs.declared.configs.MemoryConfig.{MemoryConfig}
use Rattle.cs_base.specs.declared.configs.HostConfig.{HostConfig}
use Rattle.cs_base.specs.declared.configs.NicConfig.{NicConfig}
use Rattle.topology_file.specs.declared.config.Config.{Config}
use Rattle.topology_file.specs.declared.config.Config.TheVariants.{Beacon, Switch, Memory, Host, Nic}
use Rattle.topology_file.specs.declared.component.Component.{Component}
use Rattle.topology_file.specs.declared.topology.Topology.{Topology}
use Rattle.topology_file.specs.declared.form.Kind.{Kind}
use Rattle.topology_file.specs.declared.form.Kind.TheVariants as kind
use Rattle.topology_file.specs.declared.key.Key.TheVariants as key
use Rattle.topology_file.specs.Fields.{number_at, elements_at, kind_at}
use Rattle.topology_file.specs.Ports.{IsTopology, kinds_of}
use Rattle.topology_file.specs.Refusals.{links_in}
use Rattle.topology_file.specs.Reading.{IsTopologyText}
use Rattle.topology_file.specs.Spelled.{SpellsBeacon, SpellsSwitch, SpellsMemory, SpellsHost, SpellsNic, SpellsConfig, SpellsComponent, Spells}

-- each fact that a value carries is a proposition
beacon_fact : (first period count length : ℕ) (from : List ℕ) → IsProp (IsBeacon first period count length from)
beacon_fact first period count length from = hlevel props

switch_fact : (ports age : ℕ) → IsProp (IsSwitch ports age)
switch_fact ports age = hlevel props

memory_fact : (size : ℕ) → IsProp (IsMemory size)
memory_fact size = hlevel props

host_fact : (ram cycle pcie mem : ℕ) (image : List ℕ) → IsProp (IsHost ram cycle pcie mem image)
host_fact ram cycle pcie mem image = hlevel props

nic_fact : (mac : List ℕ) → IsProp (is_individual mac ≡ true)
nic_fact mac = hlevel props

plan_fact : (end : ℕ) (kinds : List (List PortKind)) (links : List Link) → IsProp (IsPlan end kinds links)
plan_fact end kinds links = hlevel props

topology_fact : (components : List Component) (kinds : List (List PortKind)) → IsProp (IsTopology components kinds)
topology_fact components kinds = hlevel props

one_beacon : (d : Data) (c o : BeaconConfig) → SpellsBeacon d c → SpellsBeacon d o → c ≡ o
one_beacon d c o spelled also =
    let first : c.first ≡ o.first = spelled.first ∙ sym also.first in
    let period : c.period ≡ o.period = spelled.period ∙ sym also.period in
    let count : c.count ≡ o.count = spelled.count ∙ sym also.count in
    let length : c.length ≡ o.length = spelled.length ∙ sym also.length in
    let to : c.to ≡ o.to = spelled.to ∙ sym also.to in
    let from : c.from ≡ o.from = spelled.from ∙ sym also.from in
    λ i. record {
      first = first i;
      period = period i;
      count = count i;
      length = length i;
      to = to i;
      from = from i;
      valid = is_prop→PathP (λ j. IsBeacon (first j) (period j) (count j) (length j) (from j)) (λ j. beacon_fact (first j) (period j) (count j) (length j) (from j)) c.valid o.valid i;
    }

one_switch : (d : Data) (c o : SwitchConfig) → SpellsSwitch d c → SpellsSwitch d o → c ≡ o
one_switch d c o spelled also =
    let ports : c.ports ≡ o.ports = spelled.ports ∙ sym also.ports in
    let age : c.age ≡ o.age = spelled.age ∙ sym also.age in
    λ i. record {
      ports = ports i;
      age = age i;
      valid = is_prop→PathP (λ j. IsSwitch (ports j) (age j)) (λ j. switch_fact (ports j) (age j)) c.valid o.valid i;
    }

one_memory : (d : Data) (c o : MemoryConfig) → SpellsMemory d c → SpellsMemory d o → c ≡ o
one_memory d c o spelled also =
    let size : c.size ≡ o.size = spelled.size ∙ sym also.size in
    λ i. record { size = size i; valid = is_prop→PathP (λ j. IsMemory (size j)) (λ j. memory_fact (size j)) c.valid o.valid i }

one_host : (d : Data) (c o : HostConfig) → SpellsHost d c → SpellsHost d o → c ≡ o
one_host d c o spelled also =
    let ram : c.ram ≡ o.ram = spelled.ram ∙ sym also.ram in
    let cycle : c.cycle ≡ o.cycle = spelled.cycle ∙ sym also.cycle in
    let pcie : c.pcie ≡ o.pcie = spelled.pcie ∙ sym also.pcie in
    let mem : c.mem ≡ o.mem = spelled.mem ∙ sym also.mem in
    let hart : c.hart ≡ o.hart = spelled.hart ∙ sym also.hart in
    let image : c.image ≡ o.image = spelled.image ∙ sym also.image in
    λ i. record {
      ram = ram i;
      cycle = cycle i;
      pcie = pcie i;
      mem = mem i;
      hart = hart i;
      image = image i;
      valid = is_prop→PathP (λ j. IsHost (ram j) (cycle j) (pcie j) (mem j) (image j)) (λ j. host_fact (ram j) (cycle j) (pcie j) (mem j) (image j)) c.valid o.valid i;
    }

one_nic : (d : Data) (c o : NicConfig) → SpellsNic d c → SpellsNic d o → c ≡ o
one_nic d c o spelled also =
    let mac : c.mac ≡ o.mac = spelled.mac ∙ sym also.mac in
    λ i. record { mac = mac i; individual = is_prop→PathP (λ j. is_individual (mac j) ≡ true) (λ j. nic_fact (mac j)) c.individual o.individual i }

one_config : (k : Kind) (d : Data) (c o : Config) → SpellsConfig k d c → SpellsConfig k d o → c ≡ o
one_config kind.Beacon d (Beacon c) (Beacon o) spelled also = ap Beacon (one_beacon d c o spelled also)
one_config kind.Beacon d (Beacon c) (Switch o) spelled also = absurd also
one_config kind.Beacon d (Beacon c) (Memory o) spelled also = absurd also
one_config kind.Beacon d (Beacon c) (Host o) spelled also = absurd also
one_config kind.Beacon d (Beacon c) (Nic o) spelled also = absurd also
one_config kind.Beacon d (Switch c) o spelled also = absurd spelled
one_config kind.Beacon d (Memory c) o spelled also = absurd spelled
one_config kind.Beacon d (Host c) o spelled also = absurd spelled
one_config kind.Beacon d (Nic c) o spelled also = absurd spelled
one_config kind.Switch d (Switch c) (Switch o) spelled also = ap Switch (one_switch d c o spelled also)
one_config kind.Switch d (Switch c) (Beacon o) spelled also = absurd also
one_config kind.Switch d (Switch c) (Memory o) spelled also = absurd also
one_config kind.Switch d (Switch c) (Host o) spelled also = absurd also
one_config kind.Switch d (Switch c) (Nic o) spelled also = absurd also
one_config kind.Switch d (Beacon c) o spelled also = absurd spelled
one_config kind.Switch d (Memory c) o spelled also = absurd spelled
one_config kind.Switch d (Host c) o spelled also = absurd spelled
one_config kind.Switch d (Nic c) o spelled also = absurd spelled
one_config kind.Memory d (Memory c) (Memory o) spelled also = ap Memory (one_memory d c o spelled also)
one_config kind.Memory d (Memory c) (Beacon o) spelled also = absurd also
one_config kind.Memory d (Memory c) (Switch o) spelled also = absurd also
one_config kind.Memory d (Memory c) (Host o) spelled also = absurd also
one_config kind.Memory d (Memory c) (Nic o) spelled also = absurd also
one_config kind.Memory d (Beacon c) o spelled also = absurd spelled
one_config kind.Memory d (Switch c) o spelled also = absurd spelled
one_config kind.Memory d (Host c) o spelled also = absurd spelled
one_config kind.Memory d (Nic c) o spelled also = absurd spelled
one_config kind.Host d (Host c) (Host o) spelled also = ap Host (one_host d c o spelled also)
one_config kind.Host d (Host c) (Beacon o) spelled also = absurd also
one_config kind.Host d (Host c) (Switch o) spelled also = absurd also
one_config kind.Host d (Host c) (Memory o) spelled also = absurd also
one_config kind.Host d (Host c) (Nic o) spelled also = absurd also
one_config kind.Host d (Beacon c) o spelled also = absurd spelled
one_config kind.Host d (Switch c) o spelled also = absurd spelled
one_config kind.Host d (Memory c) o spelled also = absurd spelled
one_config kind.Host d (Nic c) o spelled also = absurd spelled
one_config kind.Nic d (Nic c) (Nic o) spelled also = ap Nic (one_nic d c o spelled also)
one_config kind.Nic d (Nic c) (Beacon o) spelled also = absurd also
one_config kind.Nic d (Nic c) (Switch o) spelled also = absurd also
one_config kind.Nic d (Nic c) (Memory o) spelled also = absurd also
one_config kind.Nic d (Nic c) (Host o) spelled also = absurd also
one_config kind.Nic d (Beacon c) o spelled also = absurd spelled
one_config kind.Nic d (Switch c) o spelled also = absurd spelled
one_config kind.Nic d (Memory c) o spelled also = absurd spelled
one_config kind.Nic d (Host c) o spelled also = absurd spelled

one_component : (d : Data) (c o : Component) → SpellsComponent d c → SpellsComponent d o → c ≡ o
one_component d c o spelled also =
    let name : c.name ≡ o.name = spelled.name ∙ sym also.name in
    let config : c.config ≡ o.config = one_config (kind_at d) d c.config o.config spelled.config also.config in
    λ i. record { name = name i; config = config i }

one_list : (ds : List Data) (cs others : List Component) → AllZip SpellsComponent ds cs → AllZip SpellsComponent ds others → cs ≡ others
one_list [] [] [] spelled also = refl
one_list [] [] (o ∷ os) spelled also = absurd also
one_list [] (c ∷ cs) others spelled also = absurd spelled
one_list (d ∷ ds) [] others spelled also = absurd spelled
one_list (d ∷ ds) (c ∷ cs) [] spelled also = absurd also
one_list (d ∷ ds) (c ∷ cs) (o ∷ os) spelled also =
    ap₂ (λ (x : Component) (xs : List Component). x ∷ xs) (one_component d c o spelled.0 also.0) (one_list ds cs os spelled.1 also.1)

one_wiring : (w o : Wiring) → w.end ≡ o.end → w.kinds ≡ o.kinds → w.links ≡ o.links → w ≡ o
one_wiring w o end kinds links =
    λ i. record {
      end = end i;
      kinds = kinds i;
      links = links i;
      valid = is_prop→PathP (λ j. IsPlan (end j) (kinds j) (links j)) (λ j. plan_fact (end j) (kinds j) (links j)) w.valid o.valid i;
    }

one_spelled : (document : Data) (t other : Topology) → Spells document t → Spells document other → t ≡ other
one_spelled document t other spelled also =
    let components : t.components ≡ other.components = one_list (elements_at document key.Components) t.components other.components spelled.components also.components in
    let kinds : t.wiring.kinds ≡ other.wiring.kinds = t.valid.kinds_of_ports ∙ ap kinds_of components ∙ sym other.valid.kinds_of_ports in
    let wiring : t.wiring ≡ other.wiring = one_wiring t.wiring other.wiring (spelled.end ∙ sym also.end) kinds (spelled.links ∙ sym also.links) in
    λ i. record {
      components = components i;
      wiring = wiring i;
      valid = is_prop→PathP (λ j. IsTopology (components j) (wiring j).kinds) (λ j. topology_fact (components j) (wiring j).kinds) t.valid other.valid i;
    }

pub one_topology : (bytes : List ℕ) (t other : Topology) → IsTopologyText bytes t → IsTopologyText bytes other → t ≡ other
one_topology bytes t other text also =
    let same : Some also.members ≡ Some text.members = sym also.document.parsed ∙ text.document.parsed in
    let members : also.members ≡ text.members = cc in
    one_spelled (table text.members) t other text.spelled (subst (λ (m : Members). Spells (table m) other) members also.spelled)
