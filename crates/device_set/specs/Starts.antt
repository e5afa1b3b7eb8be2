-- The devices of a topology at their start.
use Rattle.std.specs.Prelude.{ℕ, ◌≡◌, List, [], ◌∷◌, map, Option, All}
use Rattle.device_api.specs.Beacon.{started as beacon_started}
use Rattle.switch_sim.specs.Table.{started as switch_started}
use Rattle.mem_sim.specs.Memory.{started as memory_started}
use Rattle.host_sim.specs.Machine.{started_with}
use Rattle.nic_8254x.specs.State.{started as adapter_started}
use Rattle.topology_file.specs.declared.config.Config.{Config}
use Rattle.topology_file.specs.declared.config.Config.TheVariants as config
use Rattle.topology_file.specs.declared.component.Component.{Component}
use Rattle.topology_file.specs.declared.topology.Topology.{Topology}
use Rattle.device_set.specs.declared.any_device.AnyDevice.{AnyDevice}
use Rattle.device_set.specs.declared.any_device.AnyDevice.TheVariants.{Beacon, Switch, Memory, Host, Nic}
use Rattle.device_set.specs.AnyKind.{any_device, IsSettledDevice}
use Rattle.device_set.specs.Images.{next_image, images_after, too_long_from}

-- the device of a configuration at its start; a host's with its program
abbrev pub start_of : Config → List ℕ → AnyDevice
start_of (config.Beacon c) image = Beacon (beacon_started c)
start_of (config.Switch c) image = Switch (switch_started c)
start_of (config.Memory c) image = Memory (memory_started c)
start_of (config.Host c) image = Host (started_with c image)
start_of (config.Nic c) image = Nic (adapter_started c.mac)

-- the devices at their start, in the order of their components; each host has the next program
abbrev pub starts_of : List Component → List (List ℕ) → List AnyDevice
starts_of [] images = []
starts_of (c ∷ more) images = start_of c.config (next_image images) ∷ starts_of more (images_after c.config images)

-- the first host whose program is longer than its RAM
abbrev pub too_long : Topology → List (List ℕ) → Option ℕ
too_long t images = too_long_from 0 t.components images

-- devices are those of a topology, at their start, with the ports that its wiring joins
pub record AreStarted (t : Topology) (images : List (List ℕ)) (devices : List AnyDevice) : Type 0 where
  pub starts : devices ≡ starts_of t.components images
  pub at_start : All (λ (device : AnyDevice). IsSettledDevice device 0) devices
  pub matches : map any_device.ports devices ≡ t.wiring.kinds
