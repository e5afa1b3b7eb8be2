-- What comes from devices: completions, levels of interrupt lines, and reads and writes of RAM.
use Rattle.std.specs.Prelude.{ℕ, ◌-◌, Bool, true, false, ◌&&◌, ◌==◌, nat_le, List, [], ◌∷◌, ◌++◌, length, replicate, slice_set, codes, Some, if◌then◌else◌}
use Rattle.std.specs.List.{list_any}
use Rattle.cs_base.specs.Texts.{hexadecimal}
use Rattle.mem_proto.specs.declared.message.MemMsg.{MemMsg}
use Rattle.mem_proto.specs.declared.message.MemMsg.TheVariants as mem
use Rattle.pcie_proto.specs.declared.from_device.DevMsg.{DevMsg}
use Rattle.pcie_proto.specs.declared.from_device.DevMsg.TheVariants as dev
use Rattle.pcie_proto.specs.declared.from_host.HostMsg.TheVariants as host
use Rattle.sb_message.specs.declared.message.Body.TheVariants as body
use Rattle.device_api.specs.Behaviour.{Reaction}
use Rattle.device_api.specs.World.{rest}
use Rattle.rv32_core.specs.declared.pending.Pending.{Pending}
use Rattle.rv32_core.specs.declared.pending.Pending.TheVariants as access
use Rattle.rv32_core.specs.Execution.{wakes}
use Rattle.ram_map.specs.Contents.{is_within, bytes_at, number_at, copied_in}
use Rattle.host_sim.specs.declared.state.HostState.{HostState}
use Rattle.host_sim.specs.declared.state.HostState.TheVariants.{Access, Asleep}
use Rattle.host_sim.specs.Machine.{Machine, due_after}
use Rattle.host_sim.specs.Accesses.{after_load, after_store}

-- ---- completions

-- the host waits for the completion with this id on this port
abbrev pub is_awaited : HostState → (port id : ℕ) → Bool
is_awaited (Access awaited asked) port id = (awaited == port) && (asked == id)
is_awaited _ port id = false

-- a load of so many bytes is pending
abbrev pub is_load_of : Pending → (size : ℕ) → Bool
is_load_of (access.Load address asked rd is_signed) size = asked == size
is_load_of _ size = false

abbrev pub is_store : Pending → Bool
is_store (access.Store address size value) = true
is_store _ = false

-- the completion of the load that the host waits for ends it; any other changes nothing
unfoldable pub read_done : Machine → (t port id : ℕ) → List ℕ → Reaction Machine
read_done s t port id bytes =
    if is_awaited s.phase port id && is_load_of s.core.pending (length bytes)
    then after_load (due_after s t) (Some (number_at bytes 0 (length bytes)))
    else rest s

unfoldable pub write_done : Machine → (t port id : ℕ) → Reaction Machine
write_done s t port id =
    if is_awaited s.phase port id && is_store s.core.pending then after_store (due_after s t) true else rest s

-- ---- levels

abbrev pub is_any_high : List Bool → Bool
is_any_high levels = list_any (λ (high : Bool). high) levels

-- the external line is high where any port's level is
abbrev pub with_level : Machine → ℕ → Bool → Machine
with_level s port high =
    let levels = slice_set s.levels port high in
    record s { levels = levels; core = record s.core { external = is_any_high levels } }

abbrev pub is_asleep : HostState → Bool
is_asleep Asleep = true
is_asleep _ = false

-- a host that waits for an interrupt is due again where its core wakes
unfoldable pub sets_level : Machine → (t port : ℕ) → Bool → Reaction Machine
sets_level s t port high =
    let after = with_level s port high in
    rest (if is_asleep s.phase && wakes after.core then due_after after t else after)

-- ---- direct memory accesses

abbrev pub ram_base : ℕ
ram_base = 0x8000_0000

-- all these bytes are RAM
abbrev pub is_ram : Machine → (address len : ℕ) → Bool
is_ram s address len = nat_le ram_base address && is_within s.ram (address - ram_base) len

abbrev pub fault_lines : Machine → (address len : ℕ) → List (List ℕ)
fault_lines s address len = if is_ram s address len then [] else (codes "dma fault " ++ hexadecimal address) ∷ []

-- RAM's bytes, or zeros
abbrev pub bytes_read : Machine → (address len : ℕ) → List ℕ
bytes_read s address len = if is_ram s address len then bytes_at s.ram (address - ram_base) len else replicate len 0

unfoldable pub dma_read : Machine → (port id address len : ℕ) → Reaction Machine
dma_read s port id address len = record {
  state = s;
  sends = (port, body.Host (host.ReadDone id (bytes_read s address len))) ∷ [];
  lines = fault_lines s address len;
}

abbrev pub ram_written : Machine → (address : ℕ) → List ℕ → List ℕ
ram_written s address bytes =
    if is_ram s address (length bytes) then copied_in s.ram (address - ram_base) bytes else s.ram

unfoldable pub dma_write : Machine → (port id address : ℕ) → List ℕ → Reaction Machine
dma_write s port id address bytes = record {
  state = record s { ram = ram_written s address bytes };
  sends = (port, body.Host (host.WriteDone id)) ∷ [];
  lines = fault_lines s address (length bytes);
}

-- ---- what arrives

unfoldable pub takes_dev : Machine → (t port : ℕ) → DevMsg → Reaction Machine
takes_dev s t port (dev.Read id address len) = dma_read s port id address len
takes_dev s t port (dev.Write id address bytes) = dma_write s port id address bytes
takes_dev s t port (dev.Level high) = sets_level s t port high
takes_dev s t port (dev.ReadDone id bytes) = read_done s t port id bytes
takes_dev s t port (dev.WriteDone id) = write_done s t port id

unfoldable pub takes_mem : Machine → (t port : ℕ) → MemMsg → Reaction Machine
takes_mem s t port (mem.ReadDone id bytes) = read_done s t port id bytes
takes_mem s t port (mem.WriteDone id) = write_done s t port id
takes_mem s t port _ = rest s
