-- The CSRs of the machine-mode profile.
use Rattle.std.specs.Prelude.{ℕ, ◌+◌, ◌*◌, ◌/◌, ◌^◌, Bool, ◌==◌, if◌then◌else◌, Option, Some, None}
use Rattle.rv32_isa.specs.Bits.{slice}
use Rattle.rv32_core.specs.CoreState.{CoreState}

abbrev pub is_set : ℕ → ℕ → Bool
is_set word bit = slice word bit bit == 1

abbrev pub bit_if : ℕ → Bool → ℕ
bit_if bit b = if b then 2 ^ bit else 0

-- MPP, bits 12 and 11, reads 3; MPIE is bit 7 and MIE bit 3
abbrev pub mstatus_of : (interrupts_enabled previously_enabled : Bool) → ℕ
mstatus_of enabled previously = 0x1800 + bit_if 7 previously + bit_if 3 enabled

-- MEIE, and in mip MEIP
abbrev pub external_bit : Bool → ℕ
external_bit b = bit_if 11 b

abbrev pub aligned : ℕ → ℕ
aligned word = word / 4 * 4

-- what a CSR reads; none where there is no such CSR
unfoldable pub csr_of : CoreState → ℕ → Option ℕ
csr_of s number =
    if number == 0x300 then Some (mstatus_of s.interrupts_enabled s.previously_enabled)
    else if number == 0x304 then Some (external_bit s.external_enabled)
    else if number == 0x305 then Some s.mtvec
    else if number == 0x340 then Some s.mscratch
    else if number == 0x341 then Some s.mepc
    else if number == 0x342 then Some s.mcause
    else if number == 0x343 then Some s.mtval
    else if number == 0x344 then Some (external_bit s.external)
    else if number == 0xF14 then Some s.hart
    else None

-- mhartid alone can't be written
abbrev pub is_read_only : ℕ → Bool
is_read_only number = number == 0xF14

-- a write to a CSR; one to mip changes nothing
unfoldable pub with_csr : CoreState → ℕ → ℕ → CoreState
with_csr s number value =
    if number == 0x300 then record s { interrupts_enabled = is_set value 3; previously_enabled = is_set value 7 }
    else if number == 0x304 then record s { external_enabled = is_set value 11 }
    else if number == 0x305 then record s { mtvec = aligned value }
    else if number == 0x340 then record s { mscratch = value }
    else if number == 0x341 then record s { mepc = aligned value }
    else if number == 0x342 then record s { mcause = value }
    else if number == 0x343 then record s { mtval = value }
    else s
