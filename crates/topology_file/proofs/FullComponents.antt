-- The entries of components in the full table are refused for nothing, and spell the components.
use Rattle.std.proofs.Common.{◌≡◌, ℕ, ◌+◌, ◌^◌, ◌≤◌, true, not, List, [], ◌∷◌, ◌++◌, map, replicate, None, refl, ap, sym, ◌∙◌, arith}
use Rattle.std.specs.Prelude.{unwrap_or}
use Rattle.std.specs.List.{AllZip, AllByRecursion}
use Rattle.std.proofs.lemmas.Bool.{and_parts}
use Rattle.toml.specs.Data.{Data, string, table}
use Rattle.cs_base.specs.Names.{is_name, IsAddress}
use Rattle.cs_base.specs.Texts.{mac_text}
use Rattle.cs_base.specs.declared.beacon_config.BeaconConfig.{BeaconConfig}
use Rattle.cs_base.specs.declared.configs.SwitchConfig.{SwitchConfig}
use Rattle.cs_base.specs.declared.configs.MemoryConfig.{MemoryConfig}
use Rattle.cs_base.specs.declared.configs.HostConfig.{HostConfig}
use Rattle.cs_base.specs.declared.configs.NicConfig.{NicConfig}
use Rattle.topology_file.specs.declared.config.Config.{Config}
use Rattle.topology_file.specs.declared.config.Config.TheVariants.{Beacon, Switch, Memory, Host, Nic}
use Rattle.topology_file.specs.declared.component.Component.{Component}
use Rattle.topology_file.specs.declared.form.Kind.TheVariants as kind
use Rattle.topology_file.specs.declared.key.Key.TheVariants as key
use Rattle.topology_file.specs.declared.reason.Entry.TheVariants as entry
use Rattle.topology_file.specs.Keys.{component_keys}
use Rattle.topology_file.specs.Macs.{mac_of}
use Rattle.topology_file.specs.Fields.{text_at, kind_at}
use Rattle.topology_file.specs.Ports.{is_among, are_new, ports_of, kinds_of, names_of}
use Rattle.topology_file.specs.Faults.{own_fault, ports_fault, name_fault, component_fault}
use Rattle.topology_file.specs.Refusals.{at_entry, ports_at, components_refusal}
use Rattle.topology_file.specs.Spelled.{SpellsConfig, SpellsComponent}
use Rattle.topology_file.specs.Full.{kind_text, config_pairs, members_of, full_component}
use Rattle.topology_file.specs.Typed.{HasAddresses, IsTypedConfig, IsTyped}
use Rattle.topology_file.proofs.MacsWritten.{mac_of-mac_text}
use Rattle.topology_file.proofs.Passing.{nat_passes, within_passes, fours_pass, name_passes, file_name_passes, mac_passes, station_passes, own_passes, all_pass, none_or}

-- the entry of a component
abbrev pub written : List ℕ → Config → Data
written name c = table (members_of ((key.Name, string name) ∷ (key.Kind, string (kind_text c)) ∷ config_pairs c))

-- ---- no fault

module _ (name : List ℕ) (named : is_name name ≡ true) where
  beacon_passes : (c : BeaconConfig) → HasAddresses c → own_fault (component_keys kind.Beacon) (written name (Beacon c)) ≡ None
  beacon_passes c addresses =
      own_passes (component_keys kind.Beacon) (written name (Beacon c)) refl (
        name_passes name named,
        (
          refl,
          (
            within_passes 0 (10 ^ 15) c.first (omega arith) c.valid.first_in_time,
            (
              within_passes 1 (10 ^ 15) c.period c.valid.some_period c.valid.period_in_time,
              (
                within_passes 0 (10 ^ 9) c.count (omega arith) c.valid.few,
                (
                  within_passes 14 1514 c.length c.valid.a_frame c.valid.no_jumbo,
                  (
                    mac_passes c.to addresses.to,
                    (
                      station_passes c.from addresses.from c.valid.individual,
                      tt,
                    ),
                  ),
                ),
              ),
            ),
          ),
        ),
      )

  switch_passes : (c : SwitchConfig) → own_fault (component_keys kind.Switch) (written name (Switch c)) ≡ None
  switch_passes c =
      own_passes (component_keys kind.Switch) (written name (Switch c)) refl (
        name_passes name named,
        (
          refl,
          (
            within_passes 0 32 c.ports (omega arith) c.valid.few_ports,
            (
              within_passes 1 (10 ^ 15) c.age c.valid.some_age c.valid.age_in_time,
              tt,
            ),
          ),
        ),
      )

  memory_passes : (c : MemoryConfig) → own_fault (component_keys kind.Memory) (written name (Memory c)) ≡ None
  memory_passes c =
      own_passes (component_keys kind.Memory) (written name (Memory c)) refl (
        name_passes name named,
        (refl, (within_passes 1 16777216 c.size c.valid.some_byte c.valid.in_window, tt)),
      )

  host_passes : (c : HostConfig) → c.hart ≤ 4294967295 → own_fault (component_keys kind.Host) (written name (Host c)) ≡ None
  host_passes c hart =
      own_passes (component_keys kind.Host) (written name (Host c)) refl (
        name_passes name named,
        (
          refl,
          (
            fours_pass 65536 16777216 c.ram c.valid.some_ram c.valid.ram_in_range c.valid.whole_words,
            (
              within_passes 1 (10 ^ 9) c.cycle c.valid.some_cycle c.valid.short_cycle,
              (
                within_passes 0 32 c.pcie (omega arith) (omega (arith, c.valid.few_ports)),
                (
                  within_passes 0 32 c.mem (omega arith) (omega (arith, c.valid.few_ports)),
                  (
                    within_passes 0 4294967295 c.hart (omega arith) hart,
                    (
                      file_name_passes c.image c.valid.named_image c.valid.short_image,
                      tt,
                    ),
                  ),
                ),
              ),
            ),
          ),
        ),
      )

  nic_passes : (c : NicConfig) → IsAddress c.mac → own_fault (component_keys kind.Nic) (written name (Nic c)) ≡ None
  nic_passes c address =
      own_passes (component_keys kind.Nic) (written name (Nic c)) refl (
        name_passes name named,
        (refl, (station_passes c.mac address c.individual, tt)),
      )

  module _ (names : List (List ℕ)) (fresh : not (is_among name names) ≡ true) where
    name_fresh : (c : Config) → name_fault names (written name c) ≡ None
    name_fresh (Beacon c) = rw fresh
    name_fresh (Switch c) = rw fresh
    name_fresh (Memory c) = rw fresh
    name_fresh (Host c) = rw fresh
    name_fresh (Nic c) = rw fresh

    config_passes : (c : Config) → IsTypedConfig c → component_fault names (written name c) ≡ None
    config_passes (Beacon c) typed = all_pass _ None _ (beacon_passes c typed) refl (name_fresh (Beacon c))
    config_passes (Switch c) typed = all_pass _ None _ (switch_passes c) refl (name_fresh (Switch c))
    config_passes (Memory c) typed = all_pass _ None _ (memory_passes c) refl (name_fresh (Memory c))
    config_passes (Host c) typed =
        let ports : ports_fault kind.Host (written name (Host c)) ≡ None = rw (nat_passes (c.pcie + c.mem) 32 c.valid.few_ports) in
        all_pass _ _ _ (host_passes c typed) ports (name_fresh (Host c))
    config_passes (Nic c) typed = all_pass _ None _ (nic_passes c typed) refl (name_fresh (Nic c))

name_written : (name : List ℕ) (c : Config) → text_at (written name c) key.Name ≡ name
name_written name (Beacon c) = refl
name_written name (Switch c) = refl
name_written name (Memory c) = refl
name_written name (Host c) = refl
name_written name (Nic c) = refl

pub components_pass : (number : ℕ) (earlier : List (List ℕ)) (components : List Component) → are_new earlier (names_of components) ≡ true → AllByRecursion IsTyped components → components_refusal number earlier (map full_component components) ≡ None
components_pass number earlier [] new typed = refl
components_pass number earlier (c ∷ cs) new typed =
    let (fresh, rest) = and_parts (not (is_among c.name earlier)) (are_new (earlier ++ c.name ∷ []) (names_of cs)) new in
    let here : component_fault earlier (full_component c) ≡ None = config_passes c.name typed.0.named earlier fresh c.config typed.0.config in
    let after : components_refusal (number + 1) (earlier ++ text_at (full_component c) key.Name ∷ []) (map full_component cs) ≡ None =
    ap (λ name. components_refusal (number + 1) (earlier ++ name ∷ []) (map full_component cs)) (name_written c.name c.config) ∙ components_pass (number + 1) (earlier ++ c.name ∷ []) cs rest typed.1 in
    none_or _ _ (ap (at_entry (entry.Component number)) here) after

-- ---- what the entries say

mac_read : (mac : List ℕ) → IsAddress mac → mac ≡ unwrap_or (mac_of (mac_text mac)) (replicate 6 255)
mac_read mac address = sym (ap (λ found. unwrap_or found (replicate 6 255)) (mac_of-mac_text mac address))

config_spelled : (name : List ℕ) (c : Config) → IsTypedConfig c → SpellsConfig (kind_at (written name c)) (written name c) c
config_spelled name (Beacon c) typed = record { first = refl; period = refl; count = refl; length = refl; to = mac_read c.to typed.to; from = mac_read c.from typed.from }
config_spelled name (Switch c) typed = record { ports = refl; age = refl }
config_spelled name (Memory c) typed = record { size = refl }
config_spelled name (Host c) typed = record { ram = refl; cycle = refl; pcie = refl; mem = refl; hart = refl; image = refl }
config_spelled name (Nic c) typed = record { mac = mac_read c.mac typed }

ports_written : (name : List ℕ) (c : Config) → ports_at (written name c) ≡ ports_of c
ports_written name (Beacon c) = refl
ports_written name (Switch c) = refl
ports_written name (Memory c) = refl
ports_written name (Host c) = refl
ports_written name (Nic c) = refl

pub components_spelled : (components : List Component) → AllByRecursion IsTyped components → AllZip SpellsComponent (map full_component components) components
components_spelled [] typed = tt
components_spelled (c ∷ cs) typed =
    (record { name = sym (name_written c.name c.config); config = config_spelled c.name c.config typed.0.config }, components_spelled cs typed.1)

pub names_written : (components : List Component) → map (λ d. text_at d key.Name) (map full_component components) ≡ names_of components
names_written [] = refl
names_written (c ∷ cs) = ap (λ name. name ∷ map (λ d. text_at d key.Name) (map full_component cs)) (name_written c.name c.config) ∙ ap (λ names. c.name ∷ names) (names_written cs)

pub kinds_written : (components : List Component) → map ports_at (map full_component components) ≡ kinds_of components
kinds_written [] = refl
kinds_written (c ∷ cs) = ap (λ ports. ports ∷ map ports_at (map full_component cs)) (ports_written c.name c.config) ∙ ap (λ kinds. ports_of c.config ∷ kinds) (kinds_written cs)
