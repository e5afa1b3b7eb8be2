-- Each statement's fields are in their ranges.
use Rattle.std.proofs.Common.{◌≡◌, ℕ, ◌<◌, ◌≤◌, Bool, true, false, pos, List, is_some, Result, Ok, IfOk, if◌then◌else◌, lit<}
use lib.Signed.{le_z_yes}
use Rattle.rv32_isa.specs.Table.{encoded}
use Rattle.rv32_isa.specs.declared.instr.Instr.TheVariants.{Addi}
use Rattle.asm_syntax.specs.declared.line.LineBad.{LineBad}
use Rattle.asm_syntax.specs.declared.operation.Operation.{Operation}
use Rattle.asm_syntax.specs.declared.operation.Operation.TheVariants as operation
use Rattle.asm_syntax.specs.declared.operation.Computation.{Computation}
use Rattle.asm_syntax.specs.declared.operation.ImmediateComputation.{ImmediateComputation}
use Rattle.asm_syntax.specs.declared.operation.ImmediateComputation.TheVariants as immediate_operation
use Rattle.asm_syntax.specs.declared.operation.Shift.{Shift}
use Rattle.asm_syntax.specs.declared.operation.Load.{Load}
use Rattle.asm_syntax.specs.declared.operation.Store.{Store}
use Rattle.asm_syntax.specs.declared.operation.Upper.{Upper}
use Rattle.asm_syntax.specs.declared.operation.CsrAccess.{CsrAccess}
use Rattle.asm_syntax.specs.declared.range.Range.TheVariants as range
use Rattle.asm_syntax.specs.declared.statement.Condition.{Condition}
use Rattle.asm_syntax.specs.declared.statement.Statement.{Statement}
use Rattle.asm_syntax.specs.declared.statement.Statement.TheVariants.{Instruction, Branch, Jump, LoadImmediate, LoadAddress, Word, WordOf, Byte, Space}
use Rattle.asm_syntax.specs.Bytes.{is_name}
use Rattle.asm_syntax.specs.Faults.{both, ◌>>=◌}
use Rattle.asm_syntax.specs.InRange.{IsInRange}
use Rattle.asm_syntax.specs.Instructions.{computed, computed_immediate, shifted, loaded, stored, upper_loaded, accessed, accessed_immediate}
use Rattle.asm_syntax.specs.Operands.{nothing, one, two, three, based}
use Rattle.asm_syntax.specs.Places.{register, number, natural, label, csr}
use Rattle.asm_syntax.specs.Statements.{computation, immediate_computation, shift, load, store, branch, upper, access, access_immediate, jump_and_link, jump, move_register, load_immediate, load_address, word, byte, space, alone, statement_of}
use Rattle.asm_syntax.proofs.Encodable.{computed_encodes, computed_immediate_encodes, shifted_encodes, loaded_encodes, stored_encodes, upper_encodes, accessed_encodes, accessed_immediate_encodes}
use Rattle.asm_syntax.proofs.RangeLaws.{any, then_ok, both_ok, register_ok, IsWithin, number_ok, zeros_ok, csr_ok}

abbrev IsRegister : ℕ → Type 0
IsRegister n = n < 32

abbrev IsCsr : ℕ → Type 0
IsCsr n = n < 4096

-- what is so of a label's place
abbrev IsTaken : Unit {0} → Type 0
IsTaken x = Unit {0}

-- words, what their places take, and the statement of these
form_ok : {W X : Type 0} (words : Result W LineBad) (places : W → Result X LineBad) (made : W → X → Statement) (P : X → Type 0)
    → ((w : W) → IfOk (places w) P) → ((w : W) (x : X) → P x → IsInRange (made w x))
    → IfOk (words >>= (λ w. places w >>= (λ x. Ok (made w x)))) IsInRange
form_ok words places made P taken fits =
    then_ok words (λ w. places w >>= (λ x. Ok (made w x))) (λ _. Unit {0}) IsInRange (any words)
    (λ w _. then_ok (places w) (λ x. Ok (made w x)) P IsInRange (taken w) (fits w))

three_ok : {A B C : Type 0} (a : Result A LineBad) (b : Result B LineBad) (c : Result C LineBad) (P : A → Type 0) (Q : B → Type 0) (R : C → Type 0)
    → IfOk a P → IfOk b Q → IfOk c R → IfOk (both a (both b c)) (λ x. P x.0 × (Q x.1.0 × R x.1.1))
three_ok a b c P Q R holds holds' holds'' = both_ok a (both b c) P (λ x. Q x.0 × R x.1) holds (both_ok b c Q R holds' holds'')

computation_ok : (operation : Computation) (operands : List ℕ) → IfOk (computation operation operands) IsInRange
unfolding computation
computation_ok operation operands =
    form_ok (three operands) (λ w. both (register w.0) (both (register w.1) (register w.2))) (λ w x. Instruction (computed operation x.0 x.1.0 x.1.1))
    (λ x. IsRegister x.0 × (IsRegister x.1.0 × IsRegister x.1.1))
    (λ w. three_ok (register w.0) (register w.1) (register w.2) IsRegister IsRegister IsRegister (register_ok w.0) (register_ok w.1) (register_ok w.2))
    (λ w x fits. computed_encodes operation x.0 x.1.0 x.1.1 fits.0 fits.1.0 fits.1.1)

immediate_computation_ok : (operation : ImmediateComputation) (operands : List ℕ) → IfOk (immediate_computation operation operands) IsInRange
unfolding immediate_computation
immediate_computation_ok operation operands =
    form_ok (three operands) (λ w. both (register w.0) (both (register w.1) (number range.Immediate w.2))) (λ w x. Instruction (computed_immediate operation x.0 x.1.0 x.1.1))
    (λ x. IsRegister x.0 × (IsRegister x.1.0 × (IsWithin range.Immediate) x.1.1))
    (λ w. three_ok (register w.0) (register w.1) (number range.Immediate w.2) IsRegister IsRegister (IsWithin range.Immediate) (register_ok w.0) (register_ok w.1) (number_ok range.Immediate w.2))
    (λ w x fits. computed_immediate_encodes operation x.0 x.1.0 x.1.1 fits.0 fits.1.0 fits.1.1.low fits.1.1.high)

shift_ok : (operation : Shift) (operands : List ℕ) → IfOk (shift operation operands) IsInRange
unfolding shift
shift_ok operation operands =
    form_ok (three operands) (λ w. both (register w.0) (both (register w.1) (number range.Amount w.2))) (λ w x. Instruction (shifted operation x.0 x.1.0 x.1.1))
    (λ x. IsRegister x.0 × (IsRegister x.1.0 × (IsWithin range.Amount) x.1.1))
    (λ w. three_ok (register w.0) (register w.1) (number range.Amount w.2) IsRegister IsRegister (IsWithin range.Amount) (register_ok w.0) (register_ok w.1) (number_ok range.Amount w.2))
    (λ w x fits. shifted_encodes operation x.0 x.1.0 x.1.1 fits.0 fits.1.0 fits.1.1.low fits.1.1.high)

load_ok : (operation : Load) (operands : List ℕ) → IfOk (load operation operands) IsInRange
unfolding load
load_ok operation operands =
    form_ok (based operands) (λ w. both (register w.0) (both (number range.Immediate w.1) (register w.2))) (λ w x. Instruction (loaded operation x.0 x.1.1 x.1.0))
    (λ x. IsRegister x.0 × ((IsWithin range.Immediate) x.1.0 × IsRegister x.1.1))
    (λ w. three_ok (register w.0) (number range.Immediate w.1) (register w.2) IsRegister (IsWithin range.Immediate) IsRegister (register_ok w.0) (number_ok range.Immediate w.1) (register_ok w.2))
    (λ w x fits. loaded_encodes operation x.0 x.1.1 x.1.0 fits.0 fits.1.1 fits.1.0.low fits.1.0.high)

store_ok : (operation : Store) (operands : List ℕ) → IfOk (store operation operands) IsInRange
unfolding store
store_ok operation operands =
    form_ok (based operands) (λ w. both (register w.0) (both (number range.Immediate w.1) (register w.2))) (λ w x. Instruction (stored operation x.1.1 x.0 x.1.0))
    (λ x. IsRegister x.0 × ((IsWithin range.Immediate) x.1.0 × IsRegister x.1.1))
    (λ w. three_ok (register w.0) (number range.Immediate w.1) (register w.2) IsRegister (IsWithin range.Immediate) IsRegister (register_ok w.0) (number_ok range.Immediate w.1) (register_ok w.2))
    (λ w x fits. stored_encodes operation x.1.1 x.0 x.1.0 fits.1.1 fits.0 fits.1.0.low fits.1.0.high)

branch_ok : (condition : Condition) (operands : List ℕ) → IfOk (branch condition operands) IsInRange
unfolding branch
branch_ok condition operands =
    form_ok (three operands) (λ w. both (register w.0) (both (register w.1) (label w.2))) (λ w x. Branch condition x.0 x.1.0 w.2)
    (λ x. IsRegister x.0 × (IsRegister x.1.0 × IsTaken x.1.1))
    (λ w. three_ok (register w.0) (register w.1) (label w.2) IsRegister IsRegister IsTaken (register_ok w.0) (register_ok w.1) (any (label w.2)))
    (λ w x fits. (fits.0, fits.1.0))

upper_ok : (operation : Upper) (operands : List ℕ) → IfOk (upper operation operands) IsInRange
unfolding upper
upper_ok operation operands =
    form_ok (two operands) (λ w. both (register w.0) (number range.Upper w.1)) (λ w x. Instruction (upper_loaded operation x.0 x.1))
    (λ x. IsRegister x.0 × (IsWithin range.Upper) x.1)
    (λ w. both_ok (register w.0) (number range.Upper w.1) IsRegister (IsWithin range.Upper) (register_ok w.0) (number_ok range.Upper w.1))
    (λ w x fits. upper_encodes operation x.0 x.1 fits.0 fits.1.low fits.1.high)

access_ok : (operation : CsrAccess) (operands : List ℕ) → IfOk (access operation operands) IsInRange
unfolding access
access_ok operation operands =
    form_ok (three operands) (λ w. both (register w.0) (both (csr w.1) (register w.2))) (λ w x. Instruction (accessed operation x.0 x.1.1 x.1.0))
    (λ x. IsRegister x.0 × (IsCsr x.1.0 × IsRegister x.1.1))
    (λ w. three_ok (register w.0) (csr w.1) (register w.2) IsRegister IsCsr IsRegister (register_ok w.0) (csr_ok w.1) (register_ok w.2))
    (λ w x fits. accessed_encodes operation x.0 x.1.1 x.1.0 fits.0 fits.1.1 fits.1.0)

access_immediate_ok : (operation : CsrAccess) (operands : List ℕ) → IfOk (access_immediate operation operands) IsInRange
unfolding access_immediate
access_immediate_ok operation operands =
    form_ok (three operands) (λ w. both (register w.0) (both (csr w.1) (number range.Amount w.2))) (λ w x. Instruction (accessed_immediate operation x.0 x.1.1 x.1.0))
    (λ x. IsRegister x.0 × (IsCsr x.1.0 × (IsWithin range.Amount) x.1.1))
    (λ w. three_ok (register w.0) (csr w.1) (number range.Amount w.2) IsRegister IsCsr (IsWithin range.Amount) (register_ok w.0) (csr_ok w.1) (number_ok range.Amount w.2))
    (λ w x fits. accessed_immediate_encodes operation x.0 x.1.1 x.1.0 fits.0 fits.1.1.low fits.1.1.high fits.1.0)

jump_and_link_ok : (operands : List ℕ) → IfOk (jump_and_link operands) IsInRange
unfolding jump_and_link
jump_and_link_ok operands =
    form_ok (two operands) (λ w. both (register w.0) (label w.1)) (λ w x. Jump x.0 w.1)
    (λ x. IsRegister x.0 × IsTaken x.1)
    (λ w. both_ok (register w.0) (label w.1) IsRegister IsTaken (register_ok w.0) (any (label w.1)))
    (λ w x fits. fits.0)

move_register_ok : (operands : List ℕ) → IfOk (move_register operands) IsInRange
unfolding move_register
move_register_ok operands =
    form_ok (two operands) (λ w. both (register w.0) (register w.1)) (λ w x. Instruction (Addi x.0 x.1 (pos 0)))
    (λ x. IsRegister x.0 × IsRegister x.1)
    (λ w. both_ok (register w.0) (register w.1) IsRegister IsRegister (register_ok w.0) (register_ok w.1))
    (λ w x fits. computed_immediate_encodes immediate_operation.Addi x.0 x.1 (pos 0) fits.0 fits.1 (le_z_yes tt) (le_z_yes tt))

load_immediate_ok : (operands : List ℕ) → IfOk (load_immediate operands) IsInRange
unfolding load_immediate
load_immediate_ok operands =
    form_ok (two operands) (λ w. both (register w.0) (number range.LoadImmediate w.1)) (λ w x. LoadImmediate x.0 x.1)
    (λ x. IsRegister x.0 × (IsWithin range.LoadImmediate) x.1)
    (λ w. both_ok (register w.0) (number range.LoadImmediate w.1) IsRegister (IsWithin range.LoadImmediate) (register_ok w.0) (number_ok range.LoadImmediate w.1))
    (λ w x fits. (fits.0, (fits.1.low, fits.1.high)))

load_address_ok : (operands : List ℕ) → IfOk (load_address operands) IsInRange
unfolding load_address
load_address_ok operands =
    form_ok (two operands) (λ w. both (register w.0) (label w.1)) (λ w x. LoadAddress x.0 w.1)
    (λ x. IsRegister x.0 × IsTaken x.1)
    (λ w. both_ok (register w.0) (label w.1) IsRegister IsTaken (register_ok w.0) (any (label w.1)))
    (λ w x fits. fits.0)

jump_ok : (operands : List ℕ) → IfOk (jump operands) IsInRange
unfolding jump
jump_ok operands = form_ok (one operands) label (λ to x. Jump 0 to) (λ _. Unit {0}) (λ to. any (label to)) (λ to x _. lit< tt)

byte_ok : (operands : List ℕ) → IfOk (byte operands) IsInRange
unfolding byte
byte_ok operands =
    form_ok (one operands) (number range.Byte) (λ w n. Byte n) (IsWithin range.Byte) (number_ok range.Byte) (λ w n within. (within.low, within.high))

space_ok : (operands : List ℕ) → IfOk (space operands) IsInRange
unfolding space
space_ok operands = form_ok (one operands) (natural range.Space) (λ w n. Space n) (λ n. n ≤ 16777216) zeros_ok (λ w n small. small)

word_ok : (operands : List ℕ) → IfOk (word operands) IsInRange
unfolding word
word_ok operands =
    then_ok (one operands) (λ w. if is_name w then Ok (WordOf w) else (number range.Word w >>= (λ n. Ok (Word n)))) (λ _. Unit {0}) IsInRange (any (one operands)) (λ w _. at w (is_name w))
  where
    at : (w : List ℕ) (named : Bool) → IfOk (if named then Ok (WordOf w) else (number range.Word w >>= (λ n. Ok (Word n)))) IsInRange
    at w true = tt
    at w false = then_ok (number range.Word w) (λ n. Ok (Word n)) (IsWithin range.Word) IsInRange (number_ok range.Word w) (λ n within. (within.low, within.high))

-- an instruction that a name stands for has a word
abbrev pub is_sound : Operation → Bool
is_sound (operation.Alone i) = is_some (encoded i)
is_sound _ = true

pub statement_ok : (op : Operation) (operands : List ℕ) → is_sound op ≡ true → IfOk (statement_of op operands) IsInRange
unfolding alone
statement_ok (operation.Computation op) operands sound = computation_ok op operands
statement_ok (operation.Immediate op) operands sound = immediate_computation_ok op operands
statement_ok (operation.Shift op) operands sound = shift_ok op operands
statement_ok (operation.Load op) operands sound = load_ok op operands
statement_ok (operation.Store op) operands sound = store_ok op operands
statement_ok (operation.Branch condition) operands sound = branch_ok condition operands
statement_ok (operation.Upper op) operands sound = upper_ok op operands
statement_ok (operation.Csr op) operands sound = access_ok op operands
statement_ok (operation.CsrImmediate op) operands sound = access_immediate_ok op operands
statement_ok (operation.Alone i) operands sound =
    then_ok (nothing operands) (λ _. Ok (Instruction i)) IsTaken IsInRange (any (nothing operands)) (λ x _. sound)
statement_ok operation.JumpAndLink operands sound = jump_and_link_ok operands
statement_ok operation.Jump operands sound = jump_ok operands
statement_ok operation.Move operands sound = move_register_ok operands
statement_ok operation.LoadImmediate operands sound = load_immediate_ok operands
statement_ok operation.LoadAddress operands sound = load_address_ok operands
statement_ok operation.Word operands sound = word_ok operands
statement_ok operation.Byte operands sound = byte_ok operands
statement_ok operation.Space operands sound = space_ok operands
