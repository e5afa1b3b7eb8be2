-- The ranges of a statement's fields.
use Rattle.std.specs.Prelude.{◌<◌, ◌≤◌, ℤ, pos, negsuc, ◌≤ℤ◌, ⊤, IsSome}
use Rattle.rv32_isa.specs.Table.{encoded}
use Rattle.asm_syntax.specs.declared.statement.Statement.{Statement}
use Rattle.asm_syntax.specs.declared.statement.Statement.TheVariants.{Instruction, Branch, Jump, LoadImmediate, LoadAddress, Word, WordOf, Byte, Space}

-- a word with or without sign
abbrev pub IsWord : ℤ → Type 0
IsWord n = (negsuc 2147483647 ≤ℤ n) × (n ≤ℤ pos 4294967295)

-- registers are below 32, numbers are in their ranges, and an instruction has a word
abbrev pub IsInRange : Statement → Type 0
IsInRange (Instruction i) = IsSome (encoded i)
IsInRange (Branch condition rs1 rs2 to) = (rs1 < 32) × (rs2 < 32)
IsInRange (Jump rd to) = rd < 32
IsInRange (LoadImmediate rd value) = (rd < 32) × IsWord value
IsInRange (LoadAddress rd to) = rd < 32
IsInRange (Word value) = IsWord value
IsInRange (WordOf to) = ⊤
IsInRange (Byte value) = (negsuc 127 ≤ℤ value) × (value ≤ℤ pos 255)
IsInRange (Space length) = length ≤ 16777216
