-- What is wrong with a line of a source.
use Rattle.std.specs.Prelude.{ℕ, ◌+◌, ◌%◌, Bool, true, false, not, ◌&&◌, ◌==◌, nat_lt, if◌then◌else◌, List, [], ◌∷◌, Option, Some, None, is_none, Result, Ok, Err}
use Rattle.std.specs.List.{list_any}
use Rattle.std.specs.Option.{option_map_or}
use Rattle.asm_syntax.specs.declared.line.LineBad.{LineBad}
use Rattle.asm_syntax.specs.declared.line.LineBad.TheVariants as line_bad
use Rattle.asm_syntax.specs.declared.statement.Statement.{Statement}
use Rattle.asm_syntax.specs.declared.statement.Statement.TheVariants.{Branch, Jump, LoadAddress, WordOf, Byte, Space}
use Rattle.rv32_isa.specs.Table.{encoded}
use Rattle.rv32_asm.specs.Layout.{start, size_of}
use Rattle.rv32_asm.specs.Meaning.{instructions}
use Rattle.rv32_asm.specs.declared.placed.Placed.{Placed}
use Rattle.rv32_asm.specs.declared.reason.AsmReason.{AsmReason}
use Rattle.rv32_asm.specs.declared.reason.AsmReason.TheVariants.{BadLine, UnknownWord, BadRegister, Range, LabelTwice, LabelMissing, TooLong}

-- what is wrong with a line by itself
abbrev pub own_fault : LineBad → AsmReason
own_fault line_bad.BadLine = BadLine
own_fault line_bad.UnknownWord = UnknownWord
own_fault line_bad.BadRegister = BadRegister
own_fault (line_bad.OutOfRange size) = Range

-- instructions and words stand at multiples of 4 alone
abbrev pub is_by_words : Statement → Bool
is_by_words (Byte value) = false
is_by_words (Space count) = false
is_by_words statement = true

abbrev pub is_misplaced : (at : ℕ) → Statement → Bool
is_misplaced at statement = is_by_words statement && not (at % 4 == 0)

-- an instruction of the statement has no word: its label is out of reach, or at an odd distance
abbrev pub is_past_reach : (place : List ℕ → Option ℕ) (at : ℕ) → Statement → Bool
is_past_reach place at statement = list_any (λ instr. is_none (encoded instr)) (instructions place at statement)

-- the label that a statement uses
abbrev pub label_in : Statement → Option (List ℕ)
label_in (Branch condition rs1 rs2 to) = Some to
label_in (Jump rd to) = Some to
label_in (LoadAddress rd to) = Some to
label_in (WordOf to) = Some to
label_in statement = None

-- no line has the label that the statement uses
abbrev pub misses_label : (place : List ℕ → Option ℕ) → Statement → Bool
misses_label place statement = option_map_or (λ name. is_none (place name)) (label_in statement) false

-- the most bytes that a source may have
abbrev pub longest : ℕ
longest = 16777216

-- the bytes up to and with the line are too many
abbrev pub is_too_long : Placed → Bool
is_too_long line = nat_lt (start + longest) (line.address + size_of line.content)

-- a fault, where the condition holds
abbrev pub when : Bool → AsmReason → Option AsmReason
when holds reason = if holds then Some reason else None

-- the first fault of several that may be there
abbrev pub first_of : List (Option AsmReason) → Option AsmReason
first_of [] = None
first_of (None ∷ more) = first_of more
first_of (Some reason ∷ more) = Some reason

-- the line has a statement of which the test is true
abbrev pub has_statement : (Statement → Bool) → Result (Option Statement) LineBad → Bool
has_statement test (Ok (Some statement)) = test statement
has_statement test (Ok None) = false
has_statement test (Err bad) = false

-- what is wrong with a line by itself, as a fault that may be there
abbrev pub fault_by_itself : Result (Option Statement) LineBad → Option AsmReason
fault_by_itself (Ok statement) = None
fault_by_itself (Err bad) = Some (own_fault bad)

-- a line's fault of the least number: the faults stand in the order of their numbers
abbrev pub fault : (place : List ℕ → Option ℕ) → Placed → Option AsmReason
fault place line =
    first_of
    (fault_by_itself line.content
    ∷ when (has_statement (is_misplaced line.address) line.content) Range
    ∷ when (has_statement (is_past_reach place line.address) line.content) Range
    ∷ when line.twice LabelTwice
    ∷ when (has_statement (misses_label place) line.content) LabelMissing
    ∷ when (is_too_long line) TooLong
    ∷ [])
