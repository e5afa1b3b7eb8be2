-- A source assembled: its bytes, or the first line at fault.
use Rattle.std.specs.Prelude.{◌≡◌, ⊤, ℕ, ◌+◌, List, [], ◌∷◌, ◌++◌, map, Option, Some, None, Result, Ok, Err}
use Rattle.asm_syntax.specs.Lines.{line_of}
use Rattle.asm_syntax.specs.declared.line.Line.{Line}
use Rattle.asm_syntax.specs.declared.line.LineBad.{LineBad}
use Rattle.asm_syntax.specs.declared.statement.Statement.{Statement}
use Rattle.rv32_asm.specs.Faults.{fault}
use Rattle.rv32_asm.specs.Layout.{placed, place_of}
use Rattle.rv32_asm.specs.Meaning.{bytes_of}
use Rattle.cs_base.specs.Lines.{lines_of}
use Rattle.rv32_asm.specs.declared.placed.Placed.{Placed}
use Rattle.rv32_asm.specs.declared.reason.AsmBad.{AsmBad}
use Rattle.rv32_asm.specs.declared.reason.AsmBad.TheVariants.{At, NoMemory}
use Rattle.rv32_asm.specs.declared.reason.AsmReason.{AsmReason}

-- the bytes of a line without a fault
abbrev pub content_bytes : (place : List ℕ → Option ℕ) (at : ℕ) → Result (Option Statement) LineBad → List ℕ
content_bytes place at (Ok (Some statement)) = bytes_of place at statement
content_bytes place at (Ok None) = []
content_bytes place at (Err bad) = []

abbrev pub line_bytes : (place : List ℕ → Option ℕ) → Placed → List ℕ
line_bytes place line = content_bytes place line.address line.content

-- an outcome with more bytes before its own
abbrev pub behind : List ℕ → Result (List ℕ) (ℕ × AsmReason) → Result (List ℕ) (ℕ × AsmReason)
behind bytes (Ok more) = Ok (bytes ++ more)
behind bytes (Err refusal) = Err refusal

-- a line with the outcome of the lines behind it
abbrev pub with_line : (number : ℕ) → Option AsmReason → List ℕ → Result (List ℕ) (ℕ × AsmReason) → Result (List ℕ) (ℕ × AsmReason)
with_line number (Some reason) bytes rest = Err (number, reason)
with_line number None bytes rest = behind bytes rest

-- the bytes of lines one behind another, or the number of the first line at fault and its reason; the first of the lines
-- has that number
unfoldable pub outcome : (place : List ℕ → Option ℕ) (number : ℕ) → List Placed → Result (List ℕ) (ℕ × AsmReason)
outcome place number [] = Ok []
outcome place number (line ∷ more) =
    with_line number (fault place line) (line_bytes place line) (outcome place (number + 1) more)

abbrev pub outcome_of_lines : List Line → Result (List ℕ) (ℕ × AsmReason)
outcome_of_lines lines = outcome (place_of lines) 1 (placed lines)

-- a source assembled
abbrev pub assembled : List ℕ → Result (List ℕ) (ℕ × AsmReason)
assembled source = outcome_of_lines (map line_of (lines_of source))

-- a refusal says what is wrong with the source, or that memory is wanting
abbrev pub IsRefusal : List ℕ → AsmBad → Type 0
IsRefusal source (At line reason) = assembled source ≡ Err (line, reason)
IsRefusal source NoMemory = ⊤
