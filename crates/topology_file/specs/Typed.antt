-- What the types of a component's values say of them, beside what the component is set up by.
use Rattle.std.specs.Prelude.{◌≡◌, ◌≤◌, true}
use Rattle.cs_base.specs.Names.{is_name, IsAddress}
use Rattle.cs_base.specs.declared.beacon_config.BeaconConfig.{BeaconConfig}
use Rattle.topology_file.specs.declared.config.Config.{Config}
use Rattle.topology_file.specs.declared.config.Config.TheVariants.{Beacon, Switch, Memory, Host, Nic}
use Rattle.topology_file.specs.declared.component.Component.{Component}

pub record HasAddresses (c : BeaconConfig) : Type 0 where
  pub to : IsAddress c.to
  pub from : IsAddress c.from

abbrev pub IsTypedConfig : Config → Type 0
IsTypedConfig (Beacon c) = HasAddresses c
IsTypedConfig (Switch c) = Unit {0}
IsTypedConfig (Memory c) = Unit {0}
IsTypedConfig (Host c) = c.hart ≤ 4294967295
IsTypedConfig (Nic c) = IsAddress c.mac

pub record IsTyped (c : Component) : Type 0 where
  pub named : is_name c.name ≡ true
  pub config : IsTypedConfig c.config
