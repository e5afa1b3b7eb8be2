-- The statement that a line's name and operands make.
use Rattle.std.specs.Prelude.{ℕ, pos, List, Result, Ok, if◌then◌else◌}
use Rattle.rv32_isa.specs.declared.instr.Instr.{Instr}
use Rattle.rv32_isa.specs.declared.instr.Instr.TheVariants.{Addi}
use Rattle.asm_syntax.specs.declared.line.LineBad.{LineBad}
use Rattle.asm_syntax.specs.declared.operation.Operation.{Operation}
use Rattle.asm_syntax.specs.declared.operation.Operation.TheVariants as operation
use Rattle.asm_syntax.specs.declared.operation.Computation.{Computation}
use Rattle.asm_syntax.specs.declared.operation.ImmediateComputation.{ImmediateComputation}
use Rattle.asm_syntax.specs.declared.operation.Shift.{Shift}
use Rattle.asm_syntax.specs.declared.operation.Load.{Load}
use Rattle.asm_syntax.specs.declared.operation.Store.{Store}
use Rattle.asm_syntax.specs.declared.operation.Upper.{Upper}
use Rattle.asm_syntax.specs.declared.operation.CsrAccess.{CsrAccess}
use Rattle.asm_syntax.specs.declared.range.Range.TheVariants as range
use Rattle.asm_syntax.specs.declared.statement.Condition.{Condition}
use Rattle.asm_syntax.specs.declared.statement.Statement.{Statement}
use Rattle.asm_syntax.specs.declared.statement.Statement.TheVariants.{Instruction, Branch, Jump, LoadImmediate, LoadAddress, Word, WordOf, Byte, Space}
use Rattle.asm_syntax.specs.Bytes.{is_name}
use Rattle.asm_syntax.specs.Faults.{both, ◌>>=◌}
use Rattle.asm_syntax.specs.Instructions.{computed, computed_immediate, shifted, loaded, stored, upper_loaded, accessed, accessed_immediate}
use Rattle.asm_syntax.specs.Operands.{nothing, one, two, three, based}
use Rattle.asm_syntax.specs.Places.{register, number, natural, label, csr}

-- `rd, rs1, rs2`
unfoldable pub computation : Computation → List ℕ → Result Statement LineBad
computation operation operands = do
  words ← three operands
  fields ← both (register words.0) (both (register words.1) (register words.2))
  Ok (Instruction (computed operation fields.0 fields.1.0 fields.1.1))

-- `rd, rs1, imm`
unfoldable pub immediate_computation : ImmediateComputation → List ℕ → Result Statement LineBad
immediate_computation operation operands = do
  words ← three operands
  fields ← both (register words.0) (both (register words.1) (number range.Immediate words.2))
  Ok (Instruction (computed_immediate operation fields.0 fields.1.0 fields.1.1))

-- `rd, rs1, shamt`
unfoldable pub shift : Shift → List ℕ → Result Statement LineBad
shift operation operands = do
  words ← three operands
  fields ← both (register words.0) (both (register words.1) (number range.Amount words.2))
  Ok (Instruction (shifted operation fields.0 fields.1.0 fields.1.1))

-- `rd, imm(rs1)`
unfoldable pub load : Load → List ℕ → Result Statement LineBad
load operation operands = do
  words ← based operands
  fields ← both (register words.0) (both (number range.Immediate words.1) (register words.2))
  Ok (Instruction (loaded operation fields.0 fields.1.1 fields.1.0))

-- `rs2, imm(rs1)`
unfoldable pub store : Store → List ℕ → Result Statement LineBad
store operation operands = do
  words ← based operands
  fields ← both (register words.0) (both (number range.Immediate words.1) (register words.2))
  Ok (Instruction (stored operation fields.1.1 fields.0 fields.1.0))

-- `rs1, rs2, label`
unfoldable pub branch : Condition → List ℕ → Result Statement LineBad
branch condition operands = do
  words ← three operands
  fields ← both (register words.0) (both (register words.1) (label words.2))
  Ok (Branch condition fields.0 fields.1.0 words.2)

-- `rd, imm`
unfoldable pub upper : Upper → List ℕ → Result Statement LineBad
upper operation operands = do
  words ← two operands
  fields ← both (register words.0) (number range.Upper words.1)
  Ok (Instruction (upper_loaded operation fields.0 fields.1))

-- `rd, csr, rs1`
unfoldable pub access : CsrAccess → List ℕ → Result Statement LineBad
access operation operands = do
  words ← three operands
  fields ← both (register words.0) (both (csr words.1) (register words.2))
  Ok (Instruction (accessed operation fields.0 fields.1.1 fields.1.0))

-- `rd, csr, imm`
unfoldable pub access_immediate : CsrAccess → List ℕ → Result Statement LineBad
access_immediate operation operands = do
  words ← three operands
  fields ← both (register words.0) (both (csr words.1) (number range.Amount words.2))
  Ok (Instruction (accessed_immediate operation fields.0 fields.1.1 fields.1.0))

-- nothing
unfoldable pub alone : Instr → List ℕ → Result Statement LineBad
alone instruction operands = do
  end ← nothing operands
  Ok (Instruction instruction)

-- `rd, label`
unfoldable pub jump_and_link : List ℕ → Result Statement LineBad
jump_and_link operands = do
  words ← two operands
  fields ← both (register words.0) (label words.1)
  Ok (Jump fields.0 words.1)

-- `label`
unfoldable pub jump : List ℕ → Result Statement LineBad
jump operands = do
  to ← one operands
  is_label ← label to
  Ok (Jump 0 to)

-- `rd, rs`
unfoldable pub move_register : List ℕ → Result Statement LineBad
move_register operands = do
  words ← two operands
  fields ← both (register words.0) (register words.1)
  Ok (Instruction (Addi fields.0 fields.1 (pos 0)))

-- `rd, n`
unfoldable pub load_immediate : List ℕ → Result Statement LineBad
load_immediate operands = do
  words ← two operands
  fields ← both (register words.0) (number range.LoadImmediate words.1)
  Ok (LoadImmediate fields.0 fields.1)

-- `rd, label`
unfoldable pub load_address : List ℕ → Result Statement LineBad
load_address operands = do
  words ← two operands
  fields ← both (register words.0) (label words.1)
  Ok (LoadAddress fields.0 words.1)

-- `label` or `n`
unfoldable pub word : List ℕ → Result Statement LineBad
word operands = do
  value ← one operands
  if is_name value then Ok (WordOf value) else (number range.Word value >>= (λ n. Ok (Word n)))

-- `n`
unfoldable pub byte : List ℕ → Result Statement LineBad
byte operands = do
  value ← one operands
  n ← number range.Byte value
  Ok (Byte n)

-- `n`
unfoldable pub space : List ℕ → Result Statement LineBad
space operands = do
  length ← one operands
  n ← natural range.Space length
  Ok (Space n)

-- the statement of an operation and the bytes of its operands
abbrev pub statement_of : Operation → List ℕ → Result Statement LineBad
statement_of (operation.Computation op) operands = computation op operands
statement_of (operation.Immediate op) operands = immediate_computation op operands
statement_of (operation.Shift op) operands = shift op operands
statement_of (operation.Load op) operands = load op operands
statement_of (operation.Store op) operands = store op operands
statement_of (operation.Branch condition) operands = branch condition operands
statement_of (operation.Upper op) operands = upper op operands
statement_of (operation.Csr op) operands = access op operands
statement_of (operation.CsrImmediate op) operands = access_immediate op operands
statement_of (operation.Alone i) operands = alone i operands
statement_of operation.JumpAndLink operands = jump_and_link operands
statement_of operation.Jump operands = jump operands
statement_of operation.Move operands = move_register operands
statement_of operation.LoadImmediate operands = load_immediate operands
statement_of operation.LoadAddress operands = load_address operands
statement_of operation.Word operands = word operands
statement_of operation.Byte operands = byte operands
statement_of operation.Space operands = space operands
