-- The registers of an adapter as its calls see them.
use Rattle.std.specs.Prelude.{ℕ, ◌+◌, ◌*◌, ◌^◌, ◌/◌, ◌%◌, ◌==◌, ◌&&◌, ◌||◌, not, Bool, if◌then◌else◌, List, ◌∷◌, take, replicate, slice_index, Option, Some, None, bit_and, bit_or}
use Rattle.std.specs.Int.{w32, from_le_bytes}
use Rattle.std.specs.List.{list_any, zip}
use Rattle.cs_base.specs.Names.{is_individual}
use Rattle.nic_rings.specs.declared.ring.Ring.{Ring}
use Rattle.nic_regs.specs.declared.parts.RegsParts.{RegsParts}
use Rattle.nic_regs.specs.declared.register.Register.{Register}
use Rattle.nic_regs.specs.declared.register.Register.TheVariants.{Ctrl, Icr}
use Rattle.nic_regs.specs.declared.regs.RegAct.{RegAct}
use Rattle.nic_regs.specs.declared.regs.RegAct.TheVariants.{Stored, Reset}
use Rattle.nic_regs.specs.Parts.{causes_kept, place_stored}
use Rattle.nic_regs.specs.Table.{register_at, read_by, stored_by}

-- what the registers hold, and the configured address
pub record Registers : Type 0 where
  pub parts : RegsParts
  pub mac : List ℕ

-- an address as RAL and RAH have it, byte 0 lowest, with AV
abbrev pub low_of : List ℕ → ℕ
low_of mac = from_le_bytes w32 (take 4 mac)

abbrev pub high_of : List ℕ → ℕ
high_of mac = 0x8000_0000 + slice_index mac 5 * 256 + slice_index mac 4

-- as an adapter starts: all registers are 0 but STATUS and the first receive address, which is the configured one
abbrev pub started : List ℕ → Registers
started mac = record {
  parts = record {
    ctrl = 0;
    causes = 0;
    mask = 0;
    rctl = 0;
    tctl = 0;
    rdbal = 0;
    rdbah = 0;
    rdlen = 0;
    rdh = 0;
    rdt = 0;
    tdbal = 0;
    tdbah = 0;
    tdlen = 0;
    tdh = 0;
    tdt = 0;
    pcss = 0;
    ral = low_of mac ∷ replicate 15 0;
    rah = high_of mac ∷ replicate 15 0;
  };
  mac = mac;
}

-- what an offset reads: 0 where there is no register
abbrev pub value_of : RegsParts → Option Register → ℕ
value_of parts None = 0
value_of parts (Some register) = read_by parts register

abbrev pub read_value : Registers → ℕ → ℕ
read_value s offset = value_of s.parts (register_at offset)

-- a read of ICR clears the causes
abbrev pub with_read : Registers → Option Register → Registers
with_read s (Some Icr) = record s { parts = record s.parts { causes = 0 } }
with_read s _ = s

abbrev pub after_read : Registers → ℕ → Registers
after_read s offset = with_read s (register_at offset)

-- a write of CTRL with RST, bit 26, resets
abbrev pub act_by : Option Register → ℕ → RegAct
act_by (Some Ctrl) value = if bit_and value 0x0400_0000 == 0 then Stored else Reset
act_by _ value = Stored

abbrev pub act_of : ℕ → ℕ → RegAct
act_of offset value = act_by (register_at offset) value

abbrev pub with_store : Registers → Option Register → ℕ → Registers
with_store s None value = s
with_store s (Some register) value = record s { parts = stored_by s.parts register value }

abbrev pub with_write : Registers → Option Register → ℕ → RegAct → Registers
with_write s register value Reset = started s.mac
with_write s register value Stored = with_store s register value

abbrev pub after_write : Registers → ℕ → ℕ → Registers
after_write s offset value = with_write s (register_at offset) value (act_of offset value)

-- causes that are kept are raised
abbrev pub raised : Registers → ℕ → Registers
raised s bits = record s { parts = record s.parts { causes = bit_and (bit_or s.parts.causes bits) causes_kept } }

-- whether causes and mask have a common bit
abbrev pub line_of : Registers → Bool
line_of s = not (bit_and s.parts.causes s.parts.mask == 0)

abbrev pub rx_ring_of : Registers → Ring
rx_ring_of s = record { base = s.parts.rdbal + s.parts.rdbah * 2 ^ 32; len = s.parts.rdlen; head = s.parts.rdh; tail = s.parts.rdt }

abbrev pub tx_ring_of : Registers → Ring
tx_ring_of s = record { base = s.parts.tdbal + s.parts.tdbah * 2 ^ 32; len = s.parts.tdlen; head = s.parts.tdh; tail = s.parts.tdt }

abbrev pub with_rx_head : Registers → ℕ → Registers
with_rx_head s head = record s { parts = record s.parts { rdh = bit_and head place_stored } }

abbrev pub with_tx_head : Registers → ℕ → Registers
with_tx_head s head = record s { parts = record s.parts { tdh = bit_and head place_stored } }

-- whether the bits of a mask are not all clear
abbrev pub has : (value bits : ℕ) → Bool
has value bits = not (bit_and value bits == 0)

-- whether an address is that of a pair of RAL and RAH, with AV
abbrev pub is_own : Registers → List ℕ → Bool
is_own s to = list_any (λ (p : ℕ × ℕ). (p.0 == low_of to) && (p.1 == high_of to)) (zip s.parts.ral s.parts.rah)

abbrev pub is_broadcast : List ℕ → Bool
is_broadcast to = (low_of to == 0xffff_ffff) && (high_of to == 0x8000_ffff)

-- RCTL: UPE is bit 3, MPE bit 4, BAM bit 15
abbrev pub accepts : Registers → List ℕ → Bool
accepts s to =
    is_own s to
    || has s.parts.rctl (if is_individual to then 0x8 else 0x10)
    || (is_broadcast to && has s.parts.rctl 0x8000)

-- EN, bit 1 of RCTL and TCTL, with CTRL.SLU, bit 6
abbrev pub rx_on : Registers → Bool
rx_on s = has s.parts.rctl 0x2 && has s.parts.ctrl 0x40

abbrev pub tx_on : Registers → Bool
tx_on s = has s.parts.tctl 0x2 && has s.parts.ctrl 0x40

-- the size of receive buffers by BSEX and BSIZE
abbrev pub size_of : (bsex : Bool) → (bsize : ℕ) → ℕ
size_of bsex bsize =
    if bsize == 0 then 2048
    else if bsize == 1 then (if bsex then 16384 else 1024)
    else if bsize == 2 then (if bsex then 8192 else 512)
    else (if bsex then 4096 else 256)

-- RCTL: BSIZE is bits 17 and 16, BSEX bit 25
abbrev pub buffer_size : Registers → ℕ
buffer_size s = size_of (has s.parts.rctl 0x0200_0000) (s.parts.rctl / 65536 % 4)

-- TCTL.PSP, bit 3
abbrev pub pads : Registers → Bool
pads s = has s.parts.tctl 0x8

-- the registers that parts make with a configured address
abbrev pub resumed : List ℕ → RegsParts → Registers
resumed mac parts = record { parts = parts; mac = mac }
