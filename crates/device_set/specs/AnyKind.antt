-- A device of any kind does what the device of its kind does.
use Rattle.std.specs.Prelude.{ℕ, List, Option}
use Rattle.cs_base.specs.declared.port_kind.PortKind.{PortKind}
use Rattle.sb_message.specs.declared.message.Body.{Body}
use Rattle.device_api.specs.Behaviour.{Reaction, Behaviour}
use Rattle.device_api.specs.Beacon.{beacon, IsSettledBeacon}
use Rattle.switch_sim.specs.Switch.{switch, IsSettledSwitch}
use Rattle.mem_sim.specs.Memory.{memory, IsSettledMemory}
use Rattle.host_sim.specs.Host.{host, IsSettledHost}
use Rattle.nic_8254x.specs.Adapter.{adapter}
use Rattle.nic_8254x.specs.Sound.{IsSettledAdapter}
use Rattle.device_set.specs.declared.any_device.AnyDevice.{AnyDevice}
use Rattle.device_set.specs.declared.any_device.AnyDevice.TheVariants.{Beacon, Switch, Memory, Host, Nic}

-- a reaction of one kind of device as that of any
abbrev pub seen_as : {S T : Type 0} → (S → T) → Reaction S → Reaction T
seen_as f r = record { state = f r.state; sends = r.sends; lines = r.lines }

abbrev pub any_ports : AnyDevice → List PortKind
any_ports (Beacon s) = beacon.ports s
any_ports (Switch s) = switch.ports s
any_ports (Memory s) = memory.ports s
any_ports (Host s) = host.ports s
any_ports (Nic s) = adapter.ports s

abbrev pub any_due : AnyDevice → Option ℕ
any_due (Beacon s) = beacon.due s
any_due (Switch s) = switch.due s
any_due (Memory s) = memory.due s
any_due (Host s) = host.due s
any_due (Nic s) = adapter.due s

abbrev pub any_take : AnyDevice → ℕ → ℕ → Body → Reaction AnyDevice
any_take (Beacon s) t port body = seen_as Beacon (beacon.take s t port body)
any_take (Switch s) t port body = seen_as Switch (switch.take s t port body)
any_take (Memory s) t port body = seen_as Memory (memory.take s t port body)
any_take (Host s) t port body = seen_as Host (host.take s t port body)
any_take (Nic s) t port body = seen_as Nic (adapter.take s t port body)

abbrev pub any_tick : AnyDevice → ℕ → Reaction AnyDevice
any_tick (Beacon s) t = seen_as Beacon (beacon.tick s t)
any_tick (Switch s) t = seen_as Switch (switch.tick s t)
any_tick (Memory s) t = seen_as Memory (memory.tick s t)
any_tick (Host s) t = seen_as Host (host.tick s t)
any_tick (Nic s) t = seen_as Nic (adapter.tick s t)

abbrev pub any_device : Behaviour AnyDevice
any_device = record { ports = any_ports; due = any_due; take = any_take; tick = any_tick }

abbrev pub IsSettledDevice : AnyDevice → ℕ → Type 0
IsSettledDevice (Beacon s) x = IsSettledBeacon s x
IsSettledDevice (Switch s) x = IsSettledSwitch s x
IsSettledDevice (Memory s) x = IsSettledMemory s x
IsSettledDevice (Host s) x = IsSettledHost s x
IsSettledDevice (Nic s) x = IsSettledAdapter s x
