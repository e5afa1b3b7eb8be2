-- A line of bytes as its label and its statement.
use Rattle.std.specs.Prelude.{ℕ, ◌&&◌, ◌==◌, List, length, drop, Option, Some, None, Result, Ok, Err, if◌then◌else◌}
use Rattle.asm_syntax.specs.declared.class.Class.TheVariants.{Blank, Name, Mnemonic, Plain, Code}
use Rattle.asm_syntax.specs.declared.line.Line.{Line}
use Rattle.asm_syntax.specs.declared.line.LineBad.{LineBad}
use Rattle.asm_syntax.specs.declared.line.LineBad.TheVariants.{BadLine, UnknownWord}
use Rattle.asm_syntax.specs.declared.operation.Operation.{Operation}
use Rattle.asm_syntax.specs.declared.statement.Statement.{Statement}
use Rattle.asm_syntax.specs.Bytes.{front, behind, are_all, begins_with, is_name}
use Rattle.asm_syntax.specs.Faults.{◌>>=◌}
use Rattle.asm_syntax.specs.Mnemonics.{operation_named}
use Rattle.asm_syntax.specs.Operands.{word_at}
use Rattle.asm_syntax.specs.Statements.{statement_of}

-- what a name in a statement's place makes of its operands
abbrev pub operation_or_fault : Option Operation → (name operands : List ℕ) → Result Statement LineBad
operation_or_fault (Some operation) name operands = statement_of operation operands
operation_or_fault None name operands = Err (if are_all Mnemonic name then UnknownWord else BadLine)

-- a statement: its name, and what follows it
unfoldable pub statement_at : List ℕ → Result Statement LineBad
statement_at code = do
  parts ← word_at code
  operation_or_fault (operation_named parts.0) parts.0 parts.1

-- what stands behind a label and before a comment: a statement, or blanks
unfoldable pub content_of : List ℕ → Result (Option Statement) LineBad
content_of code =
    if are_all Plain code then
    (if length (behind Blank code) == 0 then Ok None else (statement_at code >>= (λ statement. Ok (Some statement))))
    else Err BadLine

-- a label with its colon at the beginning, and what follows it
unfoldable pub labelled : List ℕ → Option (List ℕ × List ℕ)
labelled bytes =
    let start = behind Blank bytes in
    let rest = behind Name start in
    if begins_with (λ byte. byte == 58) rest && is_name (front Name start) then Some (front Name start, drop 1 rest) else None

-- a comment begins at the first `#`
abbrev pub line_with : Option (List ℕ × List ℕ) → List ℕ → Line
line_with (Some parts) bytes = record { label = Some parts.0; content = content_of (front Code parts.1) }
line_with None bytes = record { label = None; content = content_of (front Code bytes) }

-- a line: a label or none, a statement or none, a comment or none
abbrev pub line_of : List ℕ → Line
line_of bytes = line_with (labelled bytes) bytes
