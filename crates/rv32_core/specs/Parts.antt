-- A core as its parts, which can be kept and made a core again.
use Rattle.std.specs.Prelude.{◌≡◌, ℕ, ◌%◌, slice_index}
use Rattle.rv32_core.specs.declared.parts.CoreParts.{CoreParts}
use Rattle.rv32_core.specs.CoreState.{CoreState, IsAccess}
use Rattle.rv32_core.specs.Csr.{is_set, mstatus_of, external_bit}

-- the bits of CSRs that can't be written have their values, and the rest is what a core can be
pub record IsValid (parts : CoreParts) : Type 0 where
  pub pc : parts.pc % 4 ≡ 0
  pub zero_register : slice_index parts.regs 0 ≡ 0
  pub mstatus : parts.mstatus ≡ mstatus_of (is_set parts.mstatus 3) (is_set parts.mstatus 7)
  pub mie : parts.mie ≡ external_bit (is_set parts.mie 11)
  pub mtvec : parts.mtvec % 4 ≡ 0
  pub mepc : parts.mepc % 4 ≡ 0
  pub pending : IsAccess parts.pending

unfoldable pub core_of : ℕ → CoreParts → CoreState
core_of hart parts = record {
  pc = parts.pc;
  registers = parts.regs;
  hart = hart;
  interrupts_enabled = is_set parts.mstatus 3;
  previously_enabled = is_set parts.mstatus 7;
  external_enabled = is_set parts.mie 11;
  mtvec = parts.mtvec;
  mscratch = parts.mscratch;
  mepc = parts.mepc;
  mcause = parts.mcause;
  mtval = parts.mtval;
  external = parts.external;
  pending = parts.pending;
}

unfoldable pub parts_of : CoreState → CoreParts
parts_of s = record {
  pc = s.pc;
  regs = s.registers;
  mstatus = mstatus_of s.interrupts_enabled s.previously_enabled;
  mie = external_bit s.external_enabled;
  mtvec = s.mtvec;
  mscratch = s.mscratch;
  mepc = s.mepc;
  mcause = s.mcause;
  mtval = s.mtval;
  external = s.external;
  pending = s.pending;
}
