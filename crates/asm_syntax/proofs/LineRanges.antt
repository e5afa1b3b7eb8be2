-- The fields of a line's statement are in their ranges.
use Rattle.std.proofs.Common.{◌≡◌, ℕ, Bool, true, false, ◌==◌, List, length, Option, Some, None, IfSome, Result, Ok, Err, IfOk, if◌then◌else◌, refl, sym, subst}
use Rattle.std.specs.Option.{option_or}
use Rattle.rv32_isa.specs.Table.{encoded, encoded_computation}
use Rattle.asm_syntax.specs.declared.class.Class.TheVariants.{Blank, Plain}
use Rattle.asm_syntax.specs.declared.line.LineBad.{LineBad}
use Rattle.asm_syntax.specs.declared.line.LineBad.TheVariants.{BadLine}
use Rattle.asm_syntax.specs.declared.operation.Operation.{Operation}
use Rattle.asm_syntax.specs.declared.statement.Statement.{Statement}
use Rattle.asm_syntax.specs.Bytes.{behind, are_all}
use Rattle.asm_syntax.specs.Faults.{◌>>=◌}
use Rattle.asm_syntax.specs.InRange.{IsInRange}
use Rattle.asm_syntax.specs.Lines.{operation_or_fault, statement_at, content_of}
use Rattle.asm_syntax.specs.Mnemonics.{computation_rows, immediate_rows, access_rows, transfer_rows, csr_rows, alone_rows, other_rows, operation_named}
use Rattle.asm_syntax.specs.Operands.{word_at}
use Rattle.asm_syntax.specs.Rows.{select}
use Rattle.asm_syntax.proofs.FormRanges.{is_sound, statement_ok}
use Rattle.asm_syntax.proofs.Names.{all_pass, Passes, select_passes, or_passes}
use Rattle.asm_syntax.proofs.RangeLaws.{any, then_ok}

named_sound : (name : List ℕ) → Passes is_sound (operation_named name)
unfolding encoded encoded_computation computation_rows immediate_rows access_rows transfer_rows csr_rows alone_rows other_rows
named_sound name =
    (or_passes is_sound (select name computation_rows) (option_or (select name immediate_rows) (option_or (select name access_rows) (option_or (select name transfer_rows) (option_or (select name csr_rows) (option_or (select name alone_rows) (select name other_rows)))))) (found computation_rows refl)
    (or_passes is_sound (select name immediate_rows) (option_or (select name access_rows) (option_or (select name transfer_rows) (option_or (select name csr_rows) (option_or (select name alone_rows) (select name other_rows))))) (found immediate_rows refl)
    (or_passes is_sound (select name access_rows) (option_or (select name transfer_rows) (option_or (select name csr_rows) (option_or (select name alone_rows) (select name other_rows)))) (found access_rows refl)
    (or_passes is_sound (select name transfer_rows) (option_or (select name csr_rows) (option_or (select name alone_rows) (select name other_rows))) (found transfer_rows refl)
    (or_passes is_sound (select name csr_rows) (option_or (select name alone_rows) (select name other_rows)) (found csr_rows refl)
    (or_passes is_sound (select name alone_rows) (select name other_rows) (found alone_rows refl)
    (found other_rows refl)))))))
  where
    found : (rows : List (List ℕ × Operation)) → all_pass is_sound rows ≡ true → Passes is_sound (select name rows)
    found rows all = select_passes is_sound name rows all

named_ok : (found : Option Operation) (name operands : List ℕ) → Passes is_sound found → IfOk (operation_or_fault found name operands) IsInRange
named_ok (Some operation) name operands sound = statement_ok operation operands sound
named_ok None name operands sound = tt

statement_at_ok : (code : List ℕ) → IfOk (statement_at code) IsInRange
unfolding statement_at
statement_at_ok code =
    then_ok (word_at code) (λ w. operation_or_fault (operation_named w.0) w.0 w.1) (λ _. Unit {0}) IsInRange (any (word_at code))
    (λ w _. named_ok (operation_named w.0) w.0 w.1 (named_sound w.0))

abbrev pub IsContentInRange : Result (Option Statement) LineBad → Type 0
IsContentInRange content = IfOk content (λ statement. IfSome statement IsInRange)

content_ok : (code : List ℕ) → IsContentInRange (content_of code)
unfolding content_of
content_ok code = at (are_all Plain code) (length (behind Blank code) == 0)
  where
    at : (plain empty : Bool) → IsContentInRange (if plain then (if empty then Ok None else (statement_at code >>= (λ statement. Ok (Some statement)))) else Err BadLine)
    at true true = tt
    at true false = then_ok (statement_at code) (λ statement. Ok (Some statement)) IsInRange (λ statement. IfSome statement IsInRange) (statement_at_ok code) (λ statement holds. holds)
    at false empty = tt

pub content_in_range : (code : List ℕ) (content : Result (Option Statement) LineBad) → content ≡ content_of code → IsContentInRange content
content_in_range code content same = subst IsContentInRange (sym same) (content_ok code)
