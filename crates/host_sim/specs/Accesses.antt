-- An instruction's access to memory: to RAM and the host's own words at once, to devices by a message.
use Rattle.std.specs.Prelude.{ℕ, ◌+◌, ◌-◌, ◌%◌, ◌^◌, Bool, true, false, ◌==◌, [], ◌∷◌, Option, Some, None, if◌then◌else◌}
use Rattle.std.specs.Int.{bytes_low_first}
use Rattle.mem_proto.specs.declared.message.MemMsg.TheVariants as mem
use Rattle.pcie_proto.specs.declared.from_host.HostMsg.TheVariants as host
use Rattle.sb_message.specs.declared.message.Body.{Body}
use Rattle.sb_message.specs.declared.message.Body.TheVariants as body
use Rattle.device_api.specs.Behaviour.{Reaction}
use Rattle.device_api.specs.World.{rest}
use Rattle.rv32_core.specs.declared.act.Act.{Act}
use Rattle.rv32_core.specs.declared.act.Act.TheVariants as act
use Rattle.rv32_core.specs.Execution.{load_finished, store_finished}
use Rattle.ram_map.specs.Contents.{is_within, loaded, stored}
use Rattle.ram_map.specs.Places.{placed}
use Rattle.ram_map.specs.declared.place.Place.{Place}
use Rattle.ram_map.specs.declared.place.Place.TheVariants as place
use Rattle.host_sim.specs.declared.state.HostState.TheVariants.{Asleep, Access}
use Rattle.host_sim.specs.Machine.{Machine, with_core}
use Rattle.host_sim.specs.Console.{prints, halts, traps}

-- an access has ended, in a trap or not
unfoldable pub finishes : Machine → Act → Reaction Machine
finishes s (act.Trapped cause) = traps s cause
finishes s _ = rest s

-- a load ends with its value, or in an access fault
unfoldable pub after_load : Machine → Option ℕ → Reaction Machine
after_load s value =
    let ended = load_finished s.core value in
    finishes (with_core s ended.state) ended.act

-- a store ends, or ends in an access fault
unfoldable pub after_store : Machine → Bool → Reaction Machine
after_store s stored =
    let ended = store_finished s.core stored in
    finishes (with_core s ended.state) ended.act

-- ---- accesses to devices

-- ids count from 0, and 2^64 - 1 is none
abbrev pub last_id : ℕ
last_id = 2 ^ 64 - 1

-- a message with the next id is sent, and the host waits for its completion
unfoldable pub asks : Machine → (port : ℕ) → Body → Reaction Machine
asks s port message = record {
  state = record s { phase = Access port s.next_id; next_id = s.next_id + 1 };
  sends = (port, message) ∷ [];
  lines = [];
}

-- where no id is left, the access is a fault
unfoldable pub asks_load : Machine → (port : ℕ) → Body → Reaction Machine
asks_load s port message = if s.next_id == last_id then after_load s None else asks s port message

unfoldable pub asks_store : Machine → (port : ℕ) → Body → Reaction Machine
asks_store s port message = if s.next_id == last_id then after_store s false else asks s port message

-- ---- loads and stores, by place

-- the ticks before this one
abbrev pub cycles : Machine → (size : ℕ) → Option ℕ
cycles s size = if size == 4 then Some (s.ticks % 2 ^ 32) else None

unfoldable pub loads_at : Machine → (size : ℕ) → Place → Reaction Machine
loads_at s size (place.Ram offset) = after_load s (loaded s.ram offset size)
loads_at s size place.Cycles = after_load s (cycles s size)
loads_at s size (place.Bar port offset) = asks_load s port (body.Host (host.Read s.next_id 0 offset size))
loads_at s size (place.Window port offset) = asks_load s port (body.Mem (mem.Read s.next_id offset size))
loads_at s size _ = after_load s None

unfoldable pub loads : Machine → (address size : ℕ) → Reaction Machine
loads s address size = loads_at s size (placed s.map address)

-- the store is done, and its instruction has run
abbrev pub stored_done : Machine → Machine
stored_done s = with_core s (store_finished s.core true).state

unfoldable pub stores_console : Machine → (size value : ℕ) → Reaction Machine
stores_console s size value =
    if size == 1 then prints (stored_done s) (value % 256) else after_store s false

unfoldable pub stores_halt : Machine → (size value : ℕ) → Reaction Machine
stores_halt s size value = if size == 4 then halts (stored_done s) value else after_store s false

unfoldable pub stores_ram : Machine → (offset size value : ℕ) → Reaction Machine
stores_ram s offset size value =
    after_store (record s { ram = stored s.ram offset size value }) (is_within s.ram offset size)

unfoldable pub stores_at : Machine → (size value : ℕ) → Place → Reaction Machine
stores_at s size value (place.Ram offset) = stores_ram s offset size value
stores_at s size value place.Console = stores_console s size value
stores_at s size value place.Halt = stores_halt s size value
stores_at s size value (place.Bar port offset) =
    asks_store s port (body.Host (host.Write s.next_id 0 offset (bytes_low_first 0 size value)))
stores_at s size value (place.Window port offset) =
    asks_store s port (body.Mem (mem.Write s.next_id offset (bytes_low_first 0 size value)))
stores_at s size value _ = after_store s false

unfoldable pub stores : Machine → (address size value : ℕ) → Reaction Machine
stores s address size value = stores_at s size value (placed s.map address)

-- what a step asks for
unfoldable pub acts : Machine → Act → Reaction Machine
acts s (act.Load address size) = loads s address size
acts s (act.Store address size value) = stores s address size value
acts s act.Wait = rest (record s { phase = Asleep })
acts s (act.Trapped cause) = traps s cause
acts s act.Done = rest s
