-- The instruction that an operation makes of its operands.
use Rattle.std.specs.Prelude.{ℕ, ℤ}
use Rattle.rv32_isa.specs.declared.instr.Instr.{Instr}
use Rattle.rv32_isa.specs.declared.instr.Instr.TheVariants as instr
use Rattle.asm_syntax.specs.declared.operation.Computation.{Computation}
use Rattle.asm_syntax.specs.declared.operation.Computation.TheVariants as computation
use Rattle.asm_syntax.specs.declared.operation.ImmediateComputation.{ImmediateComputation}
use Rattle.asm_syntax.specs.declared.operation.ImmediateComputation.TheVariants as immediate
use Rattle.asm_syntax.specs.declared.operation.Shift.{Shift}
use Rattle.asm_syntax.specs.declared.operation.Shift.TheVariants as shift
use Rattle.asm_syntax.specs.declared.operation.Load.{Load}
use Rattle.asm_syntax.specs.declared.operation.Load.TheVariants as load
use Rattle.asm_syntax.specs.declared.operation.Store.{Store}
use Rattle.asm_syntax.specs.declared.operation.Store.TheVariants as store
use Rattle.asm_syntax.specs.declared.operation.Upper.{Upper}
use Rattle.asm_syntax.specs.declared.operation.Upper.TheVariants as upper
use Rattle.asm_syntax.specs.declared.operation.CsrAccess.{CsrAccess}
use Rattle.asm_syntax.specs.declared.operation.CsrAccess.TheVariants as access

abbrev pub computed : Computation → (rd rs1 rs2 : ℕ) → Instr
computed computation.Add rd rs1 rs2 = instr.Add rd rs1 rs2
computed computation.Sub rd rs1 rs2 = instr.Sub rd rs1 rs2
computed computation.Sll rd rs1 rs2 = instr.Sll rd rs1 rs2
computed computation.Slt rd rs1 rs2 = instr.Slt rd rs1 rs2
computed computation.Sltu rd rs1 rs2 = instr.Sltu rd rs1 rs2
computed computation.Xor rd rs1 rs2 = instr.Xor rd rs1 rs2
computed computation.Srl rd rs1 rs2 = instr.Srl rd rs1 rs2
computed computation.Sra rd rs1 rs2 = instr.Sra rd rs1 rs2
computed computation.Or rd rs1 rs2 = instr.Or rd rs1 rs2
computed computation.And rd rs1 rs2 = instr.And rd rs1 rs2
computed computation.Mul rd rs1 rs2 = instr.Mul rd rs1 rs2
computed computation.Mulh rd rs1 rs2 = instr.Mulh rd rs1 rs2
computed computation.Mulhsu rd rs1 rs2 = instr.Mulhsu rd rs1 rs2
computed computation.Mulhu rd rs1 rs2 = instr.Mulhu rd rs1 rs2
computed computation.Div rd rs1 rs2 = instr.Div rd rs1 rs2
computed computation.Divu rd rs1 rs2 = instr.Divu rd rs1 rs2
computed computation.Rem rd rs1 rs2 = instr.Rem rd rs1 rs2
computed computation.Remu rd rs1 rs2 = instr.Remu rd rs1 rs2

abbrev pub computed_immediate : ImmediateComputation → (rd rs1 : ℕ) → ℤ → Instr
computed_immediate immediate.Addi rd rs1 imm = instr.Addi rd rs1 imm
computed_immediate immediate.Slti rd rs1 imm = instr.Slti rd rs1 imm
computed_immediate immediate.Sltiu rd rs1 imm = instr.Sltiu rd rs1 imm
computed_immediate immediate.Xori rd rs1 imm = instr.Xori rd rs1 imm
computed_immediate immediate.Ori rd rs1 imm = instr.Ori rd rs1 imm
computed_immediate immediate.Andi rd rs1 imm = instr.Andi rd rs1 imm

abbrev pub shifted : Shift → (rd rs1 : ℕ) → ℤ → Instr
shifted shift.Slli rd rs1 imm = instr.Slli rd rs1 imm
shifted shift.Srli rd rs1 imm = instr.Srli rd rs1 imm
shifted shift.Srai rd rs1 imm = instr.Srai rd rs1 imm

abbrev pub loaded : Load → (rd rs1 : ℕ) → ℤ → Instr
loaded load.Jalr rd rs1 imm = instr.Jalr rd rs1 imm
loaded load.Lb rd rs1 imm = instr.Lb rd rs1 imm
loaded load.Lh rd rs1 imm = instr.Lh rd rs1 imm
loaded load.Lw rd rs1 imm = instr.Lw rd rs1 imm
loaded load.Lbu rd rs1 imm = instr.Lbu rd rs1 imm
loaded load.Lhu rd rs1 imm = instr.Lhu rd rs1 imm

abbrev pub stored : Store → (rs1 rs2 : ℕ) → ℤ → Instr
stored store.Sb rs1 rs2 imm = instr.Sb rs1 rs2 imm
stored store.Sh rs1 rs2 imm = instr.Sh rs1 rs2 imm
stored store.Sw rs1 rs2 imm = instr.Sw rs1 rs2 imm

abbrev pub upper_loaded : Upper → ℕ → ℤ → Instr
upper_loaded upper.Lui rd imm = instr.Lui rd imm
upper_loaded upper.Auipc rd imm = instr.Auipc rd imm

abbrev pub accessed : CsrAccess → (rd rs1 csr : ℕ) → Instr
accessed access.Write rd rs1 csr = instr.Csrrw rd rs1 csr
accessed access.Set rd rs1 csr = instr.Csrrs rd rs1 csr
accessed access.Clear rd rs1 csr = instr.Csrrc rd rs1 csr

abbrev pub accessed_immediate : CsrAccess → ℕ → ℤ → ℕ → Instr
accessed_immediate access.Write rd imm csr = instr.Csrrwi rd imm csr
accessed_immediate access.Set rd imm csr = instr.Csrrsi rd imm csr
accessed_immediate access.Clear rd imm csr = instr.Csrrci rd imm csr
