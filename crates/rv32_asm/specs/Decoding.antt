-- What assembled bytes are as instructions.
use Rattle.std.specs.Prelude.{◌≡◌, ⊤, ℕ, ◌+◌, ◌-◌, List, [], ◌∷◌, take, drop, All, Option, Some, None, Result, Ok, Err, map}
use Rattle.std.specs.Int.{from_le_bytes, w32}
use Rattle.asm_syntax.specs.Lines.{line_of}
use Rattle.asm_syntax.specs.declared.line.Line.{Line}
use Rattle.asm_syntax.specs.declared.line.LineBad.{LineBad}
use Rattle.asm_syntax.specs.declared.statement.Statement.{Statement}
use Rattle.rv32_isa.specs.Table.{decoded}
use Rattle.rv32_isa.specs.declared.instr.Instr.{Instr}
use Rattle.rv32_asm.specs.Layout.{start, placed, place_of}
use Rattle.rv32_asm.specs.Meaning.{instructions}
use Rattle.cs_base.specs.Lines.{lines_of}
use Rattle.rv32_asm.specs.declared.placed.Placed.{Placed}

-- the word at an address, of bytes the first of which stands at the start
abbrev pub word_at : List ℕ → (address : ℕ) → ℕ
word_at bytes address = from_le_bytes w32 (take 4 (drop (address - start) bytes))

-- the words from an address on are those of the instructions
unfoldable pub DecodeFrom : List ℕ → (address : ℕ) → List Instr → Type 0
DecodeFrom bytes address [] = ⊤
DecodeFrom bytes address (instr ∷ more) = (decoded (word_at bytes address) ≡ instr) × DecodeFrom bytes (address + 4) more

-- the instructions that a line names
abbrev pub line_instructions : (place : List ℕ → Option ℕ) (at : ℕ) → Result (Option Statement) LineBad → List Instr
line_instructions place at (Ok (Some statement)) = instructions place at statement
line_instructions place at (Ok None) = []
line_instructions place at (Err bad) = []

-- the instructions that the line names stand at its address
abbrev pub StandsIn : List ℕ → (place : List ℕ → Option ℕ) → Placed → Type 0
StandsIn bytes place line = DecodeFrom bytes line.address (line_instructions place line.address line.content)

abbrev pub LinesStandIn : List ℕ → List Line → Type 0
LinesStandIn bytes lines = All (StandsIn bytes (place_of lines)) (placed lines)

-- each line of the source finds the instructions that it names in the bytes, at its address
abbrev pub IsDecoded : (source bytes : List ℕ) → Type 0
IsDecoded source bytes = LinesStandIn bytes (map line_of (lines_of source))
