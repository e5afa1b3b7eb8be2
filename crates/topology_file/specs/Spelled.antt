-- What the entries of a document spell.
use Rattle.std.specs.Prelude.{◌≡◌}
use Rattle.std.specs.List.{AllZip}
use Rattle.toml.specs.Data.{Data}
use Rattle.cs_base.specs.declared.beacon_config.BeaconConfig.{BeaconConfig}
use Rattle.cs_base.specs.declared.configs.SwitchConfig.{SwitchConfig}
use Rattle.cs_base.specs.declared.configs.MemoryConfig.{MemoryConfig}
use Rattle.cs_base.specs.declared.configs.HostConfig.{HostConfig}
use Rattle.cs_base.specs.declared.configs.NicConfig.{NicConfig}
use Rattle.topology_file.specs.declared.config.Config.{Config}
use Rattle.topology_file.specs.declared.config.Config.TheVariants as config
use Rattle.topology_file.specs.declared.component.Component.{Component}
use Rattle.topology_file.specs.declared.topology.Topology.{Topology}
use Rattle.topology_file.specs.declared.form.Kind.{Kind}
use Rattle.topology_file.specs.declared.form.Kind.TheVariants as kind
use Rattle.topology_file.specs.declared.key.Key.TheVariants as key
use Rattle.topology_file.specs.Fields.{number_at, text_at, mac_at, elements_at, kind_at}
use Rattle.topology_file.specs.Refusals.{links_in}

pub record SpellsBeacon (d : Data) (c : BeaconConfig) : Type 0 where
  pub first : c.first ≡ number_at d key.First
  pub period : c.period ≡ number_at d key.Period
  pub count : c.count ≡ number_at d key.Count
  pub length : c.length ≡ number_at d key.Length
  pub to : c.to ≡ mac_at d key.To
  pub from : c.from ≡ mac_at d key.From

pub record SpellsSwitch (d : Data) (c : SwitchConfig) : Type 0 where
  pub ports : c.ports ≡ number_at d key.Ports
  pub age : c.age ≡ number_at d key.Age

pub record SpellsMemory (d : Data) (c : MemoryConfig) : Type 0 where
  pub size : c.size ≡ number_at d key.Size

pub record SpellsHost (d : Data) (c : HostConfig) : Type 0 where
  pub ram : c.ram ≡ number_at d key.Ram
  pub cycle : c.cycle ≡ number_at d key.Cycle
  pub pcie : c.pcie ≡ number_at d key.Pcie
  pub mem : c.mem ≡ number_at d key.Mem
  pub hart : c.hart ≡ number_at d key.Hart
  pub image : c.image ≡ text_at d key.Image

pub record SpellsNic (d : Data) (c : NicConfig) : Type 0 where
  pub mac : c.mac ≡ mac_at d key.Mac

abbrev pub SpellsConfig : Kind → Data → Config → Type 0
SpellsConfig kind.Beacon d (config.Beacon c) = SpellsBeacon d c
SpellsConfig kind.Switch d (config.Switch c) = SpellsSwitch d c
SpellsConfig kind.Memory d (config.Memory c) = SpellsMemory d c
SpellsConfig kind.Host d (config.Host c) = SpellsHost d c
SpellsConfig kind.Nic d (config.Nic c) = SpellsNic d c
SpellsConfig _ d _ = ⊥

-- an entry spells a component
pub record SpellsComponent (d : Data) (c : Component) : Type 0 where
  pub name : c.name ≡ text_at d key.Name
  pub config : SpellsConfig (kind_at d) d c.config

-- a document spells a topology; its kinds are those of the components' ports
pub record Spells (document : Data) (t : Topology) : Type 0 where
  pub components : AllZip SpellsComponent (elements_at document key.Components) t.components
  pub end : t.wiring.end ≡ number_at document key.End
  pub links : t.wiring.links ≡ links_in document
