-- Values of entries that can be set up: what an entry without a fault says.
use Rattle.std.specs.Prelude.{◌≡◌, ◌≤◌, ◌^◌, length, true}
use Rattle.toml.specs.Data.{Data}
use Rattle.cs_base.specs.Names.{is_name, is_individual}
use Rattle.cs_base.specs.Configs.{IsBeacon, IsSwitch, IsMemory, IsHost}
use Rattle.topology_file.specs.declared.form.Kind.{Kind}
use Rattle.topology_file.specs.declared.form.Kind.TheVariants as kind
use Rattle.topology_file.specs.declared.key.Key.TheVariants as key
use Rattle.topology_file.specs.Fields.{number_at, text_at, mac_at, interval_at, elements_at, kind_at}

pub record IsValidHost (d : Data) : Type 0 where
  pub host : IsHost (number_at d key.Ram) (number_at d key.Cycle) (number_at d key.Pcie) (number_at d key.Mem) (text_at d key.Image)
  pub hart : number_at d key.Hart ≤ 4294967295

abbrev pub IsValidAs : Kind → Data → Type 0
IsValidAs kind.Beacon d = IsBeacon (number_at d key.First) (number_at d key.Period) (number_at d key.Count) (number_at d key.Length) (mac_at d key.From)
IsValidAs kind.Switch d = IsSwitch (number_at d key.Ports) (number_at d key.Age)
IsValidAs kind.Memory d = IsMemory (number_at d key.Size)
IsValidAs kind.Host d = IsValidHost d
IsValidAs kind.Nic d = is_individual (mac_at d key.Mac) ≡ true

pub record IsValidComponent (d : Data) : Type 0 where
  pub named : is_name (text_at d key.Name) ≡ true
  pub config : IsValidAs (kind_at d) d

pub record IsValidLink (d : Data) : Type 0 where
  pub a_port : number_at d key.APort ≤ 31
  pub b_port : number_at d key.BPort ≤ 31
  pub short_latency : number_at d key.Latency ≤ 10 ^ 12
  pub some_interval : 1 ≤ interval_at d
  pub some_slot : 1 ≤ number_at d key.Slots
  pub few_slots : number_at d key.Slots ≤ 1024

pub record IsValidTop (d : Data) : Type 0 where
  pub some_time : 1 ≤ number_at d key.End
  pub short_time : number_at d key.End ≤ 10 ^ 15
  pub some_component : 1 ≤ length (elements_at d key.Components)
  pub few_components : length (elements_at d key.Components) ≤ 64
  pub few_links : length (elements_at d key.Links) ≤ 1024
