-- What a core is: its registers, the pc, the CSRs, the external interrupt line, and an access to memory that waits.
use Rattle.std.specs.Prelude.{◌≡◌, ℕ, ◌*◌, ◌%◌, ◌^◌, ◌<◌, ◌⊎◌, Bool, false, ◌==◌, if◌then◌else◌, List, slice_index, slice_set, replicate}
use Rattle.rv32_core.specs.declared.pending.Pending.{Pending}
use Rattle.rv32_core.specs.declared.pending.Pending.TheVariants.{Nothing, Load, Store}

-- registers 0 to 31, of which register 0 is 0; of mstatus, bits MIE and MPIE; of mie, bit MEIE; the CSRs that are
-- numbers; the external line. While an access is pending, the pc is that of its instruction
pub record CoreState : Type 0 where
  pub pc : ℕ
  pub registers : List ℕ
  pub hart : ℕ
  pub interrupts_enabled : Bool
  pub previously_enabled : Bool
  pub external_enabled : Bool
  pub mtvec : ℕ
  pub mscratch : ℕ
  pub mepc : ℕ
  pub mcause : ℕ
  pub mtval : ℕ
  pub external : Bool
  pub pending : Pending

-- a register is named by five bits
abbrev pub register : CoreState → ℕ → ℕ
register s n = slice_index s.registers (n % 32)

-- a write to register 0 changes nothing
abbrev pub registers_with : List ℕ → ℕ → ℕ → List ℕ
registers_with registers n value = if n % 32 == 0 then registers else slice_set registers (n % 32) value

-- as a core starts
abbrev pub started : ℕ → CoreState
started hart = record {
  pc = 0x8000_0000;
  registers = replicate 32 0;
  hart = hart;
  interrupts_enabled = false;
  previously_enabled = false;
  external_enabled = false;
  mtvec = 0;
  mscratch = 0;
  mepc = 0;
  mcause = 0;
  mtval = 0;
  external = false;
  pending = Nothing;
}

-- an access of 1, 2 or 4 bytes
abbrev pub IsSize : ℕ → Type 0
IsSize size = (size ≡ 1) ⊎ (size ≡ 2) ⊎ (size ≡ 4)

-- what a pending access can be: aligned, to or from a register, and of a word with no sign to extend
abbrev pub IsAccess : Pending → Type 0
IsAccess Nothing = Unit {0}
IsAccess (Load address size rd signed) = IsSize size × (address % size ≡ 0) × (rd < 32) × (size ≡ 4 → signed ≡ false)
IsAccess (Store address size value) = IsSize size × (address % size ≡ 0) × (value < 2 ^ (8 * size))

-- what is so of each core
pub record IsCore (pc mtvec mepc : ℕ) (registers : List ℕ) (pending : Pending) : Type 0 where
  pub pc_aligned : pc % 4 ≡ 0
  pub mtvec_aligned : mtvec % 4 ≡ 0
  pub mepc_aligned : mepc % 4 ≡ 0
  pub zero_register : slice_index registers 0 ≡ 0
  pub access : IsAccess pending
