-- One step of a core: what each instruction does, the traps, and the interrupt.
use Rattle.std.specs.Prelude.{◌≡◌, ℕ, ◌+◌, ◌-◌, ◌*◌, ◌/◌, ◌%◌, ◌^◌, Bool, true, false, not, ◌&&◌, nat_lt, ◌==◌, if◌then◌else◌, ℤ, int_lt, bit_and, bit_or, bit_xor, Option, Some, None, unwrap_or}
use Rattle.rv32_isa.specs.Bits.{word_of}
use Rattle.rv32_isa.specs.Table.{decoded}
use Rattle.rv32_isa.specs.declared.instr.Instr.{Instr}
use Rattle.rv32_isa.specs.declared.instr.Instr.TheVariants.{Lui, Auipc, Jal, Jalr, Beq, Bne, Blt, Bge, Bltu, Bgeu, Lb, Lh, Lw, Lbu, Lhu, Sb, Sh, Sw, Addi, Slti, Sltiu, Xori, Ori, Andi, Slli, Srli, Srai, Add, Sub, Sll, Slt, Sltu, Xor, Srl, Sra, Or, And, Mul, Mulh, Mulhsu, Mulhu, Div, Divu, Rem, Remu, Fence, FenceI, Ecall, Ebreak, Mret, Wfi, Csrrw, Csrrs, Csrrc, Csrrwi, Csrrsi, Csrrci}
use Rattle.rv32_core.specs.declared.act.Act.{Act}
use Rattle.rv32_core.specs.declared.act.Act.TheVariants as act
use Rattle.rv32_core.specs.declared.pending.Pending.{Pending}
use Rattle.rv32_core.specs.declared.pending.Pending.TheVariants as access
use Rattle.rv32_core.specs.CoreState.{CoreState, register, registers_with}
use Rattle.rv32_core.specs.Alu.{integer, upper, add, subtract, add_immediate, less, less_immediate, less_unsigned, shift_left, shift_right, shift_right_arithmetic, multiply, multiply_high, multiply_high_mixed, multiply_high_unsigned, divide, divide_unsigned, remainder, remainder_unsigned}
use Rattle.rv32_core.specs.Accesses.{low_bytes, loaded}
use Rattle.rv32_core.specs.Csr.{csr_of, with_csr, is_read_only, external_bit}

-- the core after a call, and what the call answers
pub record Outcome : Type 0 where
  pub state : CoreState
  pub act : Act

-- ---- what instructions have in common

-- a trap saves the pc, the cause and MIE, and goes to mtvec
unfoldable pub trapped : ℕ → CoreState → Outcome
trapped cause s = record {
  state = record s {
    mepc = s.pc;
    mcause = cause;
    mtval = 0;
    previously_enabled = s.interrupts_enabled;
    interrupts_enabled = false;
    pc = s.mtvec;
    pending = access.Nothing;
  };
  act = act.Trapped cause;
}

abbrev pub next_pc : CoreState → ℕ
next_pc s = (s.pc + 4) % 2 ^ 32

-- the pc moves on, and nothing else
unfoldable pub passed : CoreState → CoreState
passed s = record s { pc = next_pc s; pending = access.Nothing }

abbrev pub done : CoreState → Outcome
done s = record { state = s; act = act.Done }

-- a result goes to a register
unfoldable pub results : CoreState → (rd value : ℕ) → Outcome
results s rd value =
    done (record s { registers = registers_with s.registers rd value; pc = next_pc s; pending = access.Nothing })

-- a jump to an address that is no multiple of four traps
unfoldable pub jumps : CoreState → (rd target : ℕ) → Outcome
jumps s rd target =
    if target % 4 == 0
    then done (record s { registers = registers_with s.registers rd (next_pc s); pc = target; pending = access.Nothing })
    else trapped 0 s

unfoldable pub branches : CoreState → ℤ → Bool → Outcome
branches s imm taken = if taken then jumps s 0 (add_immediate s.pc imm) else done (passed s)

-- an access that is not aligned traps; another waits
unfoldable pub loads : CoreState → (rd size : ℕ) → Bool → ℕ → Outcome
loads s rd size is_signed at =
    if at % size == 0 then record {
      state = record s { pending = access.Load at size (rd % 32) is_signed };
      act = act.Load at size;
    }
    else trapped 4 s

unfoldable pub stores : CoreState → (size at value : ℕ) → Outcome
stores s size at value =
    if at % size == 0 then record {
      state = record s { pending = access.Store at size (low_bytes size value) };
      act = act.Store at size (low_bytes size value);
    }
    else trapped 6 s

-- a CSR is read into rd; where there is no such CSR, the instruction is illegal
abbrev pub read_into : CoreState → ℕ → Option ℕ → Outcome
read_into s rd None = trapped 2 s
read_into s rd (Some old) = results s rd old

unfoldable pub reads : CoreState → (rd number : ℕ) → Outcome
reads s rd number = read_into s rd (csr_of s number)

-- a CSR is read into rd and written; where there is no such CSR or it can't be written, the instruction is illegal
abbrev pub swapped : CoreState → (rd number value : ℕ) → Option ℕ → Outcome
swapped s rd number value None = trapped 2 s
swapped s rd number value (Some old) = results (with_csr s number value) rd old

unfoldable pub swaps : CoreState → (rd number value : ℕ) → Outcome
swaps s rd number value = if is_read_only number then trapped 2 s else swapped s rd number value (csr_of s number)

-- the bits of a source are set, or cleared; a source of register 0, or an immediate of 0, writes nothing
abbrev pub csr_or_zero : CoreState → ℕ → ℕ
csr_or_zero s number = unwrap_or (csr_of s number) 0

unfoldable pub sets : CoreState → (rd number source bits : ℕ) → Outcome
sets s rd number source bits =
    if source == 0 then reads s rd number else swaps s rd number (bit_or (csr_or_zero s number) bits)

unfoldable pub clears : CoreState → (rd number source bits : ℕ) → Outcome
clears s rd number source bits =
    if source == 0 then reads s rd number else swaps s rd number (bit_and (csr_or_zero s number) (2 ^ 32 - 1 - bits))

-- an interrupt that is enabled is pending, whatever MIE says
abbrev pub wakes : CoreState → Bool
wakes s = not (bit_and (external_bit s.external_enabled) (external_bit s.external) == 0)

abbrev pub takes_interrupt : CoreState → Bool
takes_interrupt s = s.interrupts_enabled && wakes s

unfoldable pub returns : CoreState → CoreState
returns s = record s { interrupts_enabled = s.previously_enabled; previously_enabled = true; pc = s.mepc; pending = access.Nothing }

unfoldable pub waits : CoreState → Outcome
waits s = record { state = passed s; act = if wakes s then act.Done else act.Wait }

-- ---- one row for each instruction

-- the computations; any other is illegal
unfoldable pub computed : Instr → CoreState → Outcome
computed (Lui rd imm) s = results s rd (upper imm)
computed (Auipc rd imm) s = results s rd (add s.pc (upper imm))
computed (Addi rd rs1 imm) s = results s rd (add_immediate (register s rs1) imm)
computed (Slti rd rs1 imm) s = results s rd (less_immediate (register s rs1) imm)
computed (Sltiu rd rs1 imm) s = results s rd (less_unsigned (register s rs1) (word_of imm))
computed (Xori rd rs1 imm) s = results s rd (bit_xor (register s rs1) (word_of imm))
computed (Ori rd rs1 imm) s = results s rd (bit_or (register s rs1) (word_of imm))
computed (Andi rd rs1 imm) s = results s rd (bit_and (register s rs1) (word_of imm))
computed (Slli rd rs1 imm) s = results s rd (shift_left (register s rs1) (word_of imm))
computed (Srli rd rs1 imm) s = results s rd (shift_right (register s rs1) (word_of imm))
computed (Srai rd rs1 imm) s = results s rd (shift_right_arithmetic (register s rs1) (word_of imm))
computed (Add rd rs1 rs2) s = results s rd (add (register s rs1) (register s rs2))
computed (Sub rd rs1 rs2) s = results s rd (subtract (register s rs1) (register s rs2))
computed (Sll rd rs1 rs2) s = results s rd (shift_left (register s rs1) (register s rs2))
computed (Slt rd rs1 rs2) s = results s rd (less (register s rs1) (register s rs2))
computed (Sltu rd rs1 rs2) s = results s rd (less_unsigned (register s rs1) (register s rs2))
computed (Xor rd rs1 rs2) s = results s rd (bit_xor (register s rs1) (register s rs2))
computed (Srl rd rs1 rs2) s = results s rd (shift_right (register s rs1) (register s rs2))
computed (Sra rd rs1 rs2) s = results s rd (shift_right_arithmetic (register s rs1) (register s rs2))
computed (Or rd rs1 rs2) s = results s rd (bit_or (register s rs1) (register s rs2))
computed (And rd rs1 rs2) s = results s rd (bit_and (register s rs1) (register s rs2))
computed (Mul rd rs1 rs2) s = results s rd (multiply (register s rs1) (register s rs2))
computed (Mulh rd rs1 rs2) s = results s rd (multiply_high (register s rs1) (register s rs2))
computed (Mulhsu rd rs1 rs2) s = results s rd (multiply_high_mixed (register s rs1) (register s rs2))
computed (Mulhu rd rs1 rs2) s = results s rd (multiply_high_unsigned (register s rs1) (register s rs2))
computed (Div rd rs1 rs2) s = results s rd (divide (register s rs1) (register s rs2))
computed (Divu rd rs1 rs2) s = results s rd (divide_unsigned (register s rs1) (register s rs2))
computed (Rem rd rs1 rs2) s = results s rd (remainder (register s rs1) (register s rs2))
computed (Remu rd rs1 rs2) s = results s rd (remainder_unsigned (register s rs1) (register s rs2))
computed _ s = trapped 2 s

-- the others
unfoldable pub executed : Instr → CoreState → Outcome
executed (Jal rd imm) s = jumps s rd (add_immediate s.pc imm)
executed (Jalr rd rs1 imm) s = jumps s rd (add_immediate (register s rs1) imm / 2 * 2)
executed (Beq rs1 rs2 imm) s = branches s imm (register s rs1 == register s rs2)
executed (Bne rs1 rs2 imm) s = branches s imm (not (register s rs1 == register s rs2))
executed (Blt rs1 rs2 imm) s = branches s imm (int_lt (integer (register s rs1)) (integer (register s rs2)))
executed (Bge rs1 rs2 imm) s = branches s imm (not (int_lt (integer (register s rs1)) (integer (register s rs2))))
executed (Bltu rs1 rs2 imm) s = branches s imm (nat_lt (register s rs1) (register s rs2))
executed (Bgeu rs1 rs2 imm) s = branches s imm (not (nat_lt (register s rs1) (register s rs2)))
executed (Lb rd rs1 imm) s = loads s rd 1 true (add_immediate (register s rs1) imm)
executed (Lh rd rs1 imm) s = loads s rd 2 true (add_immediate (register s rs1) imm)
executed (Lw rd rs1 imm) s = loads s rd 4 false (add_immediate (register s rs1) imm)
executed (Lbu rd rs1 imm) s = loads s rd 1 false (add_immediate (register s rs1) imm)
executed (Lhu rd rs1 imm) s = loads s rd 2 false (add_immediate (register s rs1) imm)
executed (Sb rs1 rs2 imm) s = stores s 1 (add_immediate (register s rs1) imm) (register s rs2)
executed (Sh rs1 rs2 imm) s = stores s 2 (add_immediate (register s rs1) imm) (register s rs2)
executed (Sw rs1 rs2 imm) s = stores s 4 (add_immediate (register s rs1) imm) (register s rs2)
executed (Fence bits) s = done (passed s)
executed (FenceI bits) s = done (passed s)
executed Ecall s = trapped 11 s
executed Ebreak s = trapped 3 s
executed Mret s = done (returns s)
executed Wfi s = waits s
executed (Csrrw rd rs1 csr) s = swaps s rd csr (register s rs1)
executed (Csrrs rd rs1 csr) s = sets s rd csr (rs1 % 32) (register s rs1)
executed (Csrrc rd rs1 csr) s = clears s rd csr (rs1 % 32) (register s rs1)
executed (Csrrwi rd imm csr) s = swaps s rd csr (word_of imm)
executed (Csrrsi rd imm csr) s = sets s rd csr (word_of imm) (word_of imm)
executed (Csrrci rd imm csr) s = clears s rd csr (word_of imm) (word_of imm)
executed i s = computed i s

-- ---- the calls

-- a step on a word, or on a fetch that was refused
abbrev pub stepped : CoreState → Option ℕ → Outcome
stepped s None = trapped 1 s
stepped s (Some word) = executed (decoded word) s

-- after an act, the access that it asks for is pending, or none
abbrev pub Awaits : Act → Pending → Type 0
Awaits (act.Load at size) pending = (rd : ℕ) × (is_signed : Bool) × (pending ≡ access.Load at size rd is_signed)
Awaits (act.Store at size value) pending = pending ≡ access.Store at size value
Awaits _ pending = pending ≡ access.Nothing

-- what each finish is for
abbrev pub IsLoad : Pending → Type 0
IsLoad (access.Load at size rd is_signed) = Unit {0}
IsLoad _ = ⊥

abbrev pub IsStore : Pending → Type 0
IsStore (access.Store at size value) = Unit {0}
IsStore _ = ⊥

-- a load ends with its value, or with a fault
abbrev pub finished : CoreState → ℕ → Pending → Outcome
finished s value (access.Load at size rd is_signed) = results s rd (loaded size is_signed value)
finished s value _ = done (passed s)

unfoldable pub load_finished : CoreState → Option ℕ → Outcome
load_finished s None = trapped 5 s
load_finished s (Some value) = finished s value s.pending

-- a store ends, or with a fault
unfoldable pub store_finished : CoreState → Bool → Outcome
store_finished s stored = if stored then done (passed s) else trapped 7 s

abbrev pub interrupted : CoreState → CoreState
interrupted s = (trapped 0x8000_000B s).state
