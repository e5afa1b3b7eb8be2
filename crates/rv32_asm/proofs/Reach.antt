-- A branch or jump that goes too far has no word.
use Rattle.std.proofs.Common.{◌≡◌, ℕ, ◌^◌, ltb, ℤ, pos, negsuc, Bool, true, false, ◌&&◌, None, refl, arith}
use Rattle.std.proofs.lemmas.Bool.Decides.{nat_tests}
use Rattle.asm_syntax.specs.declared.statement.Condition.{Condition}
use Rattle.asm_syntax.specs.declared.statement.Condition.TheVariants.{Equal, NotEqual, Less, NotLess, LessUnsigned, NotLessUnsigned}
use Rattle.rv32_isa.specs.Bits.{is_signed}
use Rattle.rv32_isa.specs.Formats.{encoded_if, b_type, is_register, is_even}
use Rattle.rv32_isa.specs.Table.{encoded}
use Rattle.rv32_isa.specs.declared.instr.Instr.TheVariants.{Jal}
use Rattle.rv32_asm.specs.Meaning.{branch}

-- a word of which the third of four conditions fails, or the second of three
third_fails : (a b c d : Bool) (word : ℕ) → c ≡ false → encoded_if (((a && b) && c) && d) word ≡ None
third_fails true true true d word fails = cc
third_fails true true false d word fails = refl
third_fails true false c d word fails = refl
third_fails false b c d word fails = refl

second_fails : (a b d : Bool) (word : ℕ) → b ≡ false → encoded_if ((a && b) && d) word ≡ None
second_fails true true d word fails = cc
second_fails true false d word fails = refl
second_fails false b d word fails = refl

below : (n : ℕ) → ltb n (2 ^ 20) ≡ false → ltb n (2 ^ 12) ≡ false
below n far = grind (arith, nat_tests)

-- what 21 bits don't represent, 13 bits don't
no_fewer_bits : (z : ℤ) → is_signed 21 z ≡ false → is_signed 13 z ≡ false
no_fewer_bits (pos n) far = below n far
no_fewer_bits (negsuc n) far = below n far

branch_type_fails : (opcode funct3 rs1 rs2 : ℕ) (z : ℤ) → is_signed 21 z ≡ false → b_type opcode funct3 rs1 rs2 z ≡ None
branch_type_fails opcode funct3 rs1 rs2 z far = third_fails (is_register rs1) (is_register rs2) (is_signed 13 z) (is_even z) _ (no_fewer_bits z far)

pub branch_fails : (condition : Condition) (rs1 rs2 : ℕ) (z : ℤ) → is_signed 21 z ≡ false → encoded (branch condition rs1 rs2 z) ≡ None
unfolding encoded
branch_fails Equal rs1 rs2 z far = branch_type_fails 0b1100011 0b000 rs1 rs2 z far
branch_fails NotEqual rs1 rs2 z far = branch_type_fails 0b1100011 0b001 rs1 rs2 z far
branch_fails Less rs1 rs2 z far = branch_type_fails 0b1100011 0b100 rs1 rs2 z far
branch_fails NotLess rs1 rs2 z far = branch_type_fails 0b1100011 0b101 rs1 rs2 z far
branch_fails LessUnsigned rs1 rs2 z far = branch_type_fails 0b1100011 0b110 rs1 rs2 z far
branch_fails NotLessUnsigned rs1 rs2 z far = branch_type_fails 0b1100011 0b111 rs1 rs2 z far

pub jump_fails : (rd : ℕ) (z : ℤ) → is_signed 21 z ≡ false → encoded (Jal rd z) ≡ None
unfolding encoded
jump_fails rd z far = second_fails (is_register rd) (is_signed 21 z) (is_even z) _ far
