-- A device of any kind keeps what every device keeps.
use Rattle.std.specs.Prelude.{ℕ, List}
use Rattle.device_api.specs.Behaviour.{Reaction, IsLawful, IsLawfulAt, IsOrderly}
use Rattle.device_api.specs.Beacon.{BeaconState, beacon, IsSettledBeacon}
use Rattle.device_api.specs.BeaconLaws.{beacon_lawful}
use Rattle.switch_sim.specs.Table.{SwitchState}
use Rattle.switch_sim.specs.Switch.{switch, IsSettledSwitch}
use Rattle.switch_sim.specs.SwitchLaws.{switch_lawful}
use Rattle.mem_sim.specs.Memory.{memory, IsSettledMemory}
use Rattle.mem_sim.specs.MemoryLaws.{memory_lawful}
use Rattle.host_sim.specs.Machine.{Machine}
use Rattle.host_sim.specs.Host.{host, IsSettledHost}
use Rattle.host_sim.specs.HostLaws.{host_lawful}
use Rattle.nic_8254x.specs.State.{Adapter}
use Rattle.nic_8254x.specs.Adapter.{adapter}
use Rattle.nic_8254x.specs.Sound.{IsSettledAdapter}
use Rattle.nic_8254x.specs.AdapterLaws.{adapter_lawful}
use Rattle.device_set.specs.declared.any_device.AnyDevice.{AnyDevice}
use Rattle.device_set.specs.declared.any_device.AnyDevice.TheVariants.{Beacon, Switch, Memory, Host, Nic}
use Rattle.device_set.specs.AnyKind.{seen_as, any_device, IsSettledDevice}

-- an orderly reaction of one kind is an orderly one of any; then what a kind keeps at a state, any device of it keeps
beacon_orderly : (s : BeaconState) (t : ℕ) (r : Reaction BeaconState) → IsOrderly beacon IsSettledBeacon s t r → IsOrderly any_device IsSettledDevice (Beacon s) t (seen_as Beacon r)
beacon_orderly s t r orderly = record { same_ports = orderly.same_ports; settled_after = orderly.settled_after; sendable = orderly.sendable }

beacon_at : (s : BeaconState) → IsLawfulAt beacon IsSettledBeacon s → IsLawfulAt any_device IsSettledDevice (Beacon s)
beacon_at s law = record {
  few_ports = law.few_ports;
  take_sends_events = law.take_sends_events;
  tick_sends_events = law.tick_sends_events;
  settled_later = law.settled_later;
  take_orderly = λ t port body may due in_run settled. beacon_orderly s t (beacon.take s t port body) (law.take_orderly t port body may due in_run settled);
  due_after_take = law.due_after_take;
  tick_orderly = λ t due in_run settled. beacon_orderly s t (beacon.tick s t) (law.tick_orderly t due in_run settled);
  due_after_tick = law.due_after_tick;
}

switch_orderly : (s : SwitchState) (t : ℕ) (r : Reaction SwitchState) → IsOrderly switch IsSettledSwitch s t r → IsOrderly any_device IsSettledDevice (Switch s) t (seen_as Switch r)
switch_orderly s t r orderly = record { same_ports = orderly.same_ports; settled_after = orderly.settled_after; sendable = orderly.sendable }

switch_at : (s : SwitchState) → IsLawfulAt switch IsSettledSwitch s → IsLawfulAt any_device IsSettledDevice (Switch s)
switch_at s law = record {
  few_ports = law.few_ports;
  take_sends_events = law.take_sends_events;
  tick_sends_events = law.tick_sends_events;
  settled_later = law.settled_later;
  take_orderly = λ t port body may due in_run settled. switch_orderly s t (switch.take s t port body) (law.take_orderly t port body may due in_run settled);
  due_after_take = law.due_after_take;
  tick_orderly = λ t due in_run settled. switch_orderly s t (switch.tick s t) (law.tick_orderly t due in_run settled);
  due_after_tick = law.due_after_tick;
}

memory_orderly : (s : List ℕ) (t : ℕ) (r : Reaction (List ℕ)) → IsOrderly memory IsSettledMemory s t r → IsOrderly any_device IsSettledDevice (Memory s) t (seen_as Memory r)
memory_orderly s t r orderly = record { same_ports = orderly.same_ports; settled_after = orderly.settled_after; sendable = orderly.sendable }

memory_at : (s : List ℕ) → IsLawfulAt memory IsSettledMemory s → IsLawfulAt any_device IsSettledDevice (Memory s)
memory_at s law = record {
  few_ports = law.few_ports;
  take_sends_events = law.take_sends_events;
  tick_sends_events = law.tick_sends_events;
  settled_later = law.settled_later;
  take_orderly = λ t port body may due in_run settled. memory_orderly s t (memory.take s t port body) (law.take_orderly t port body may due in_run settled);
  due_after_take = law.due_after_take;
  tick_orderly = λ t due in_run settled. memory_orderly s t (memory.tick s t) (law.tick_orderly t due in_run settled);
  due_after_tick = law.due_after_tick;
}

host_orderly : (s : Machine) (t : ℕ) (r : Reaction Machine) → IsOrderly host IsSettledHost s t r → IsOrderly any_device IsSettledDevice (Host s) t (seen_as Host r)
host_orderly s t r orderly = record { same_ports = orderly.same_ports; settled_after = orderly.settled_after; sendable = orderly.sendable }

host_at : (s : Machine) → IsLawfulAt host IsSettledHost s → IsLawfulAt any_device IsSettledDevice (Host s)
host_at s law = record {
  few_ports = law.few_ports;
  take_sends_events = law.take_sends_events;
  tick_sends_events = law.tick_sends_events;
  settled_later = law.settled_later;
  take_orderly = λ t port body may due in_run settled. host_orderly s t (host.take s t port body) (law.take_orderly t port body may due in_run settled);
  due_after_take = law.due_after_take;
  tick_orderly = λ t due in_run settled. host_orderly s t (host.tick s t) (law.tick_orderly t due in_run settled);
  due_after_tick = law.due_after_tick;
}

adapter_orderly : (s : Adapter) (t : ℕ) (r : Reaction Adapter) → IsOrderly adapter IsSettledAdapter s t r → IsOrderly any_device IsSettledDevice (Nic s) t (seen_as Nic r)
adapter_orderly s t r orderly = record { same_ports = orderly.same_ports; settled_after = orderly.settled_after; sendable = orderly.sendable }

adapter_at : (s : Adapter) → IsLawfulAt adapter IsSettledAdapter s → IsLawfulAt any_device IsSettledDevice (Nic s)
adapter_at s law = record {
  few_ports = law.few_ports;
  take_sends_events = law.take_sends_events;
  tick_sends_events = law.tick_sends_events;
  settled_later = law.settled_later;
  take_orderly = λ t port body may due in_run settled. adapter_orderly s t (adapter.take s t port body) (law.take_orderly t port body may due in_run settled);
  due_after_take = law.due_after_take;
  tick_orderly = λ t due in_run settled. adapter_orderly s t (adapter.tick s t) (law.tick_orderly t due in_run settled);
  due_after_tick = law.due_after_tick;
}

any_at : (s : AnyDevice) → IsLawfulAt any_device IsSettledDevice s
any_at (Beacon s) = beacon_at s (beacon_lawful.at s)
any_at (Switch s) = switch_at s (switch_lawful.at s)
any_at (Memory s) = memory_at s (memory_lawful.at s)
any_at (Host s) = host_at s (host_lawful.at s)
any_at (Nic s) = adapter_at s (adapter_lawful.at s)

pub any_lawful : IsLawful any_device IsSettledDevice
any_lawful = record { at = any_at }
