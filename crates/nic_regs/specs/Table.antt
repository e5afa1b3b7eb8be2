-- The table of registers: where each stands, what it reads, and what a write stores; a row a register.
use Rattle.std.specs.Prelude.{ℕ, ◌-◌, ◌/◌, ◌%◌, ◌<◌, ◌==◌, nat_le, nat_lt, if◌then◌else◌, Option, Some, None, bit_and, bit_or, slice_index, slice_set}
use Rattle.std.specs.Int.{w32, bit_not}
use Rattle.nic_regs.specs.declared.parts.RegsParts.{RegsParts}
use Rattle.nic_regs.specs.declared.register.Register.{Register}
use Rattle.nic_regs.specs.declared.register.Register.TheVariants.{Ctrl, Status, Icr, Ics, Ims, Imc, Rctl, Tctl, Rdbal, Rdbah, Rdlen, Rdh, Rdt, Tdbal, Tdbah, Tdlen, Tdh, Tdt, Rxcsum, Ral, Rah}
use Rattle.nic_regs.specs.Parts.{causes_kept, ctrl_stored, base_stored, length_stored, place_stored, pcss_stored, rah_stored}

-- RAL(n) and RAH(n), n from 0 to 15
abbrev pub address_register : ℕ → Option Register
address_register offset =
    if nat_lt offset 0x5400 then None
    else if nat_le 0x5480 offset then None
    else if offset % 8 == 0 then Some (Ral ((offset - 0x5400) / 8))
    else if offset % 8 == 4 then Some (Rah ((offset - 0x5400) / 8))
    else None

-- the register at an offset, if there is one
unfoldable pub register_at : ℕ → Option Register
register_at offset =
    if offset == 0x0000 then Some Ctrl
    else if offset == 0x0008 then Some Status
    else if offset == 0x00c0 then Some Icr
    else if offset == 0x00c8 then Some Ics
    else if offset == 0x00d0 then Some Ims
    else if offset == 0x00d8 then Some Imc
    else if offset == 0x0100 then Some Rctl
    else if offset == 0x0400 then Some Tctl
    else if offset == 0x2800 then Some Rdbal
    else if offset == 0x2804 then Some Rdbah
    else if offset == 0x2808 then Some Rdlen
    else if offset == 0x2810 then Some Rdh
    else if offset == 0x2818 then Some Rdt
    else if offset == 0x3800 then Some Tdbal
    else if offset == 0x3804 then Some Tdbah
    else if offset == 0x3808 then Some Tdlen
    else if offset == 0x3810 then Some Tdh
    else if offset == 0x3818 then Some Tdt
    else if offset == 0x5000 then Some Rxcsum
    else address_register offset

-- there are 16 receive addresses
abbrev pub IsThere : Register → Type 0
IsThere (Ral n) = n < 16
IsThere (Rah n) = n < 16
IsThere _ = Unit {0}

-- what a register reads
abbrev pub read_by : RegsParts → Register → ℕ
read_by s Ctrl = s.ctrl
read_by s Status = if bit_and s.ctrl 0x40 == 0 then 1 else 3
read_by s Icr = s.causes
read_by s Ics = 0
read_by s Ims = s.mask
read_by s Imc = 0
read_by s Rctl = s.rctl
read_by s Tctl = s.tctl
read_by s Rdbal = s.rdbal
read_by s Rdbah = s.rdbah
read_by s Rdlen = s.rdlen
read_by s Rdh = s.rdh
read_by s Rdt = s.rdt
read_by s Tdbal = s.tdbal
read_by s Tdbah = s.tdbah
read_by s Tdlen = s.tdlen
read_by s Tdh = s.tdh
read_by s Tdt = s.tdt
read_by s Rxcsum = s.pcss
read_by s (Ral n) = slice_index s.ral n
read_by s (Rah n) = slice_index s.rah n

-- what a write that is no reset leaves; ICR and IMC clear the bits that are 1, ICS and IMS set those of kept causes
abbrev pub stored_by : RegsParts → Register → ℕ → RegsParts
stored_by s Ctrl value = record s { ctrl = bit_and value ctrl_stored }
stored_by s Status value = s
stored_by s Icr value = record s { causes = bit_and s.causes (bit_not w32 value) }
stored_by s Ics value = record s { causes = bit_and (bit_or s.causes value) causes_kept }
stored_by s Ims value = record s { mask = bit_and (bit_or s.mask value) causes_kept }
stored_by s Imc value = record s { mask = bit_and s.mask (bit_not w32 value) }
stored_by s Rctl value = record s { rctl = value }
stored_by s Tctl value = record s { tctl = value }
stored_by s Rdbal value = record s { rdbal = bit_and value base_stored }
stored_by s Rdbah value = record s { rdbah = value }
stored_by s Rdlen value = record s { rdlen = bit_and value length_stored }
stored_by s Rdh value = record s { rdh = bit_and value place_stored }
stored_by s Rdt value = record s { rdt = bit_and value place_stored }
stored_by s Tdbal value = record s { tdbal = bit_and value base_stored }
stored_by s Tdbah value = record s { tdbah = value }
stored_by s Tdlen value = record s { tdlen = bit_and value length_stored }
stored_by s Tdh value = record s { tdh = bit_and value place_stored }
stored_by s Tdt value = record s { tdt = bit_and value place_stored }
stored_by s Rxcsum value = record s { pcss = bit_and value pcss_stored }
stored_by s (Ral n) value = record s { ral = slice_set s.ral n value }
stored_by s (Rah n) value = record s { rah = slice_set s.rah n (bit_and value rah_stored) }
