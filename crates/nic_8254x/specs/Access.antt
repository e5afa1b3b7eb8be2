-- The host reads and writes registers.
use Rattle.std.specs.Prelude.{ℕ, ◌==◌, if◌then◌else◌, List, [], ◌∷◌, length, replicate}
use Rattle.std.specs.Int.{w32, from_le_bytes, to_le_bytes}
use Rattle.sb_message.specs.declared.message.Body.{Body}
use Rattle.sb_message.specs.declared.message.Body.TheVariants as body
use Rattle.pcie_proto.specs.declared.from_device.DevMsg.TheVariants as dev
use Rattle.device_api.specs.Behaviour.{Reaction}
use Rattle.nic_regs.specs.declared.regs.RegAct.{RegAct}
use Rattle.nic_regs.specs.declared.regs.RegAct.TheVariants.{Stored, Reset}
use Rattle.nic_regs.specs.Registers.{act_of, after_read, after_write, read_value}
use Rattle.nic_8254x.specs.State.{Adapter, dropped}

abbrev pub answers : Adapter → Body → Reaction Adapter
answers s message = record { state = s; sends = (0, message) ∷ []; lines = [] }

-- a read of four bytes reads the register there, if there is one; any other reads zeros
unfoldable pub reads : Adapter → (id offset length : ℕ) → Reaction Adapter
reads s id offset length =
    if length == 4
    then answers (record s { regs = after_read s.regs offset }) (body.Dev (dev.ReadDone id (to_le_bytes w32 (read_value s.regs offset))))
    else answers s (body.Dev (dev.ReadDone id (replicate length 0)))

abbrev pub after_act : Adapter → RegAct → Adapter
after_act s Stored = s
after_act s Reset = dropped s

abbrev pub stores : Adapter → (offset value : ℕ) → Adapter
stores s offset value = after_act (record s { regs = after_write s.regs offset value }) (act_of offset value)

-- a write of four bytes writes the register there, if there is one; any other changes nothing
unfoldable pub writes : Adapter → (id offset : ℕ) → List ℕ → Reaction Adapter
writes s id offset bytes =
    answers (if length bytes == 4 then stores s offset (from_le_bytes w32 bytes) else s) (body.Dev (dev.WriteDone id))
