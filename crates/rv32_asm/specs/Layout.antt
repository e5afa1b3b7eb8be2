-- Where the lines of a source stand: the bytes that each takes, its address, and the addresses of the labels.
use Rattle.std.specs.Prelude.{ℕ, ◌+◌, Bool, false, List, [], ◌∷◌, ◌++◌, sum_by, Option, Some, None, Result, Ok, Err, if◌then◌else◌}
use Rattle.std.specs.List.{list_any}
use Rattle.std.specs.Option.{option_map_or}
use Rattle.std.specs.Str.{bytes_eq}
use Rattle.asm_syntax.specs.declared.line.Line.{Line}
use Rattle.asm_syntax.specs.declared.line.LineBad.{LineBad}
use Rattle.asm_syntax.specs.declared.line.LineBad.TheVariants.{BadLine, UnknownWord, BadRegister, OutOfRange}
use Rattle.asm_syntax.specs.declared.statement.Statement.{Statement}
use Rattle.asm_syntax.specs.declared.statement.Statement.TheVariants.{Instruction, Branch, Jump, LoadImmediate, LoadAddress, Word, WordOf, Byte, Space}
use Rattle.rv32_asm.specs.declared.placed.Placed.{Placed}

-- the bytes that a statement takes
abbrev pub size_of_statement : Statement → ℕ
size_of_statement (Instruction instr) = 4
size_of_statement (Branch condition rs1 rs2 to) = 4
size_of_statement (Jump rd to) = 4
size_of_statement (LoadImmediate rd value) = 8
size_of_statement (LoadAddress rd to) = 8
size_of_statement (Word value) = 4
size_of_statement (WordOf to) = 4
size_of_statement (Byte value) = 1
size_of_statement (Space count) = count

-- the bytes that a line takes; a line outside the language takes none, and one with a number out of its range its own
abbrev pub size_of : Result (Option Statement) LineBad → ℕ
size_of (Ok None) = 0
size_of (Ok (Some statement)) = size_of_statement statement
size_of (Err BadLine) = 0
size_of (Err UnknownWord) = 0
size_of (Err BadRegister) = 0
size_of (Err (OutOfRange size)) = size

-- the address of the first byte, 0x8000_0000
abbrev pub start : ℕ
start = 2147483648

-- the address behind the first lines of a source
abbrev pub address_after : List Line → ℕ
address_after lines = start + sum_by (λ line. size_of line.content) lines

-- the line has that label
abbrev pub has_label : List ℕ → Line → Bool
has_label name line = option_map_or (bytes_eq name) line.label false

-- the address of the first line that has the label, of lines the first of which stands at `at`
unfoldable pub place_from : (at : ℕ) → List ℕ → List Line → Option ℕ
place_from at name [] = None
place_from at name (line ∷ more) =
    if has_label name line then Some at else place_from (at + size_of line.content) name more

-- the address that a label means in a source
abbrev pub place_of : List Line → List ℕ → Option ℕ
place_of lines name = place_from start name lines

-- the line's label is one that an earlier line has
abbrev pub repeats_label : List Line → Line → Bool
repeats_label before line = option_map_or (λ name. list_any (has_label name) before) line.label false

-- the lines with their places, where `before` are those before them
unfoldable pub placed_after : List Line → List Line → List Placed
placed_after before [] = []
placed_after before (line ∷ more) =
    record { content = line.content; address = address_after before; twice = repeats_label before line }
    ∷ placed_after (before ++ line ∷ []) more

-- the lines of a source with their places
abbrev pub placed : List Line → List Placed
placed lines = placed_after [] lines
