-- The names of the statements.
use Rattle.std.specs.Prelude.{ℕ, pos, List, [], ◌∷◌, codes, Option}
use Rattle.std.specs.Option.{option_or}
use Rattle.rv32_isa.specs.declared.instr.Instr.TheVariants as instr
use Rattle.asm_syntax.specs.declared.operation.Operation.{Operation}
use Rattle.asm_syntax.specs.declared.operation.Operation.TheVariants as operation
use Rattle.asm_syntax.specs.declared.operation.Computation.TheVariants as computation
use Rattle.asm_syntax.specs.declared.operation.ImmediateComputation.TheVariants as immediate
use Rattle.asm_syntax.specs.declared.operation.Shift.TheVariants as shift
use Rattle.asm_syntax.specs.declared.operation.Load.TheVariants as load
use Rattle.asm_syntax.specs.declared.operation.Store.TheVariants as store
use Rattle.asm_syntax.specs.declared.operation.Upper.TheVariants as upper
use Rattle.asm_syntax.specs.declared.operation.CsrAccess.TheVariants as access
use Rattle.asm_syntax.specs.declared.statement.Condition.TheVariants as condition
use Rattle.asm_syntax.specs.Rows.{select}

-- the computations with two registers; the second half is of the extension M
unfoldable pub computation_rows : List (List ℕ × Operation)
computation_rows =
    (codes "add", operation.Computation computation.Add)
    ∷ (codes "sub", operation.Computation computation.Sub)
    ∷ (codes "sll", operation.Computation computation.Sll)
    ∷ (codes "slt", operation.Computation computation.Slt)
    ∷ (codes "sltu", operation.Computation computation.Sltu)
    ∷ (codes "xor", operation.Computation computation.Xor)
    ∷ (codes "srl", operation.Computation computation.Srl)
    ∷ (codes "sra", operation.Computation computation.Sra)
    ∷ (codes "or", operation.Computation computation.Or)
    ∷ (codes "and", operation.Computation computation.And)
    ∷ (codes "mul", operation.Computation computation.Mul)
    ∷ (codes "mulh", operation.Computation computation.Mulh)
    ∷ (codes "mulhsu", operation.Computation computation.Mulhsu)
    ∷ (codes "mulhu", operation.Computation computation.Mulhu)
    ∷ (codes "div", operation.Computation computation.Div)
    ∷ (codes "divu", operation.Computation computation.Divu)
    ∷ (codes "rem", operation.Computation computation.Rem)
    ∷ (codes "remu", operation.Computation computation.Remu)
    ∷ []

-- the computations with an immediate
unfoldable pub immediate_rows : List (List ℕ × Operation)
immediate_rows =
    (codes "addi", operation.Immediate immediate.Addi)
    ∷ (codes "slti", operation.Immediate immediate.Slti)
    ∷ (codes "sltiu", operation.Immediate immediate.Sltiu)
    ∷ (codes "xori", operation.Immediate immediate.Xori)
    ∷ (codes "ori", operation.Immediate immediate.Ori)
    ∷ (codes "andi", operation.Immediate immediate.Andi)
    ∷ (codes "slli", operation.Shift shift.Slli)
    ∷ (codes "srli", operation.Shift shift.Srli)
    ∷ (codes "srai", operation.Shift shift.Srai)
    ∷ (codes "lui", operation.Upper upper.Lui)
    ∷ (codes "auipc", operation.Upper upper.Auipc)
    ∷ []

-- loads, stores and the jump to a register
unfoldable pub access_rows : List (List ℕ × Operation)
access_rows =
    (codes "jalr", operation.Load load.Jalr)
    ∷ (codes "lb", operation.Load load.Lb)
    ∷ (codes "lh", operation.Load load.Lh)
    ∷ (codes "lw", operation.Load load.Lw)
    ∷ (codes "lbu", operation.Load load.Lbu)
    ∷ (codes "lhu", operation.Load load.Lhu)
    ∷ (codes "sb", operation.Store store.Sb)
    ∷ (codes "sh", operation.Store store.Sh)
    ∷ (codes "sw", operation.Store store.Sw)
    ∷ []

-- branches and jumps to labels
unfoldable pub transfer_rows : List (List ℕ × Operation)
transfer_rows =
    (codes "beq", operation.Branch condition.Equal)
    ∷ (codes "bne", operation.Branch condition.NotEqual)
    ∷ (codes "blt", operation.Branch condition.Less)
    ∷ (codes "bge", operation.Branch condition.NotLess)
    ∷ (codes "bltu", operation.Branch condition.LessUnsigned)
    ∷ (codes "bgeu", operation.Branch condition.NotLessUnsigned)
    ∷ (codes "jal", operation.JumpAndLink)
    ∷ (codes "j", operation.Jump)
    ∷ []

-- the accesses to CSRs
unfoldable pub csr_rows : List (List ℕ × Operation)
csr_rows =
    (codes "csrrw", operation.Csr access.Write)
    ∷ (codes "csrrs", operation.Csr access.Set)
    ∷ (codes "csrrc", operation.Csr access.Clear)
    ∷ (codes "csrrwi", operation.CsrImmediate access.Write)
    ∷ (codes "csrrsi", operation.CsrImmediate access.Set)
    ∷ (codes "csrrci", operation.CsrImmediate access.Clear)
    ∷ []

-- what has no operands; `nop` is `addi x0, x0, 0`, and `ret` is `jalr x0, 0(ra)`
unfoldable pub alone_rows : List (List ℕ × Operation)
alone_rows =
    (codes "fence", operation.Alone (instr.Fence 0))
    ∷ (codes "fence.i", operation.Alone (instr.FenceI 0))
    ∷ (codes "ecall", operation.Alone instr.Ecall)
    ∷ (codes "ebreak", operation.Alone instr.Ebreak)
    ∷ (codes "mret", operation.Alone instr.Mret)
    ∷ (codes "wfi", operation.Alone instr.Wfi)
    ∷ (codes "nop", operation.Alone (instr.Addi 0 0 (pos 0)))
    ∷ (codes "ret", operation.Alone (instr.Jalr 0 1 (pos 0)))
    ∷ []

-- the other pseudoinstructions, and what makes no instruction
unfoldable pub other_rows : List (List ℕ × Operation)
other_rows =
    (codes "li", operation.LoadImmediate)
    ∷ (codes "la", operation.LoadAddress)
    ∷ (codes "mv", operation.Move)
    ∷ (codes ".word", operation.Word)
    ∷ (codes ".byte", operation.Byte)
    ∷ (codes ".space", operation.Space)
    ∷ []

-- what a name asks for, if it names a statement
abbrev pub operation_named : List ℕ → Option Operation
operation_named name =
    option_or (select name computation_rows) (
    option_or (select name immediate_rows) (
    option_or (select name access_rows) (
    option_or (select name transfer_rows) (
    option_or (select name csr_rows) (
    option_or (select name alone_rows) (
    select name other_rows))))))
