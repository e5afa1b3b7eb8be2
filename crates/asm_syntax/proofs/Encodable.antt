-- The instructions that operations make have words.
use Rattle.std.proofs.Common.{◌≡◌, ℕ, ◌^◌, ◌<◌, Bool, true, false, ◌&&◌, nat_lt, ℤ, pos, negsuc, ◌≤ℤ◌, IsSome, refl, ap, ◌∙◌, arith, lit<}
use Rattle.std.proofs.lemmas.Bool.Decides.{nat_tests}
use Rattle.std.proofs.lemmas.Bool.{false≢true}
use Rattle.std.proofs.lemmas.Int.{ints}
use Rattle.rv32_isa.specs.Bits.{is_signed, is_unsigned}
use Rattle.rv32_isa.specs.Formats.{is_register, encoded_if}
use Rattle.rv32_isa.specs.Table.{encoded, encoded_computation}
use Rattle.asm_syntax.specs.Instructions.{computed, computed_immediate, shifted, loaded, stored, upper_loaded, accessed, accessed_immediate}
use Rattle.asm_syntax.specs.declared.operation.Computation.{Computation}
use Rattle.asm_syntax.specs.declared.operation.Computation.TheVariants as computation
use Rattle.asm_syntax.specs.declared.operation.ImmediateComputation.{ImmediateComputation}
use Rattle.asm_syntax.specs.declared.operation.ImmediateComputation.TheVariants as immediate
use Rattle.asm_syntax.specs.declared.operation.Shift.{Shift}
use Rattle.asm_syntax.specs.declared.operation.Shift.TheVariants as shift
use Rattle.asm_syntax.specs.declared.operation.Load.{Load}
use Rattle.asm_syntax.specs.declared.operation.Load.TheVariants as load
use Rattle.asm_syntax.specs.declared.operation.Store.{Store}
use Rattle.asm_syntax.specs.declared.operation.Store.TheVariants as store
use Rattle.asm_syntax.specs.declared.operation.Upper.{Upper}
use Rattle.asm_syntax.specs.declared.operation.Upper.TheVariants as upper
use Rattle.asm_syntax.specs.declared.operation.CsrAccess.{CsrAccess}
use Rattle.asm_syntax.specs.declared.operation.CsrAccess.TheVariants as access

all_of : (a b : Bool) → a ≡ true → b ≡ true → (a && b) ≡ true
all_of a b holds holds' = ap (λ c. c && b) holds ∙ holds'

has_word : (in_range : Bool) (word : ℕ) → in_range ≡ true → IsSome (encoded_if in_range word)
has_word true word holds = refl
has_word false word holds = absurd (false≢true holds)

a_register : (n : ℕ) → n < 32 → is_register n ≡ true
a_register n small = grind (arith, nat_tests)

a_csr : (n : ℕ) → n < 4096 → nat_lt n 4096 ≡ true
a_csr n small = grind (arith, nat_tests)

an_immediate : (z : ℤ) → negsuc 2047 ≤ℤ z → z ≤ℤ pos 2047 → is_signed 12 z ≡ true
an_immediate (pos n) low high = let small : n < 2048 = omega (arith, ints) in grind (arith, nat_tests)
an_immediate (negsuc n) low high = let small : n < 2048 = omega (arith, ints) in grind (arith, nat_tests)

an_unsigned : (width most : ℕ) (z : ℤ) → pos 0 ≤ℤ z → z ≤ℤ pos most → most < 2 ^ width → is_unsigned width z ≡ true
an_unsigned width most (pos n) low high fits = let small : n < 2 ^ width = omega (arith, ints) in grind (arith, nat_tests)
an_unsigned width most (negsuc n) low high fits = absurd (omega (arith, ints))

pub computed_encodes : (operation : Computation) (rd rs1 rs2 : ℕ) → rd < 32 → rs1 < 32 → rs2 < 32 → IsSome (encoded (computed operation rd rs1 rs2))
unfolding encoded encoded_computation
computed_encodes computation.Add rd rs1 rs2 a b c = has_word _ _ (all_of _ _ (all_of _ _ (a_register rd a) (a_register rs1 b)) (a_register rs2 c))
computed_encodes computation.Sub rd rs1 rs2 a b c = has_word _ _ (all_of _ _ (all_of _ _ (a_register rd a) (a_register rs1 b)) (a_register rs2 c))
computed_encodes computation.Sll rd rs1 rs2 a b c = has_word _ _ (all_of _ _ (all_of _ _ (a_register rd a) (a_register rs1 b)) (a_register rs2 c))
computed_encodes computation.Slt rd rs1 rs2 a b c = has_word _ _ (all_of _ _ (all_of _ _ (a_register rd a) (a_register rs1 b)) (a_register rs2 c))
computed_encodes computation.Sltu rd rs1 rs2 a b c = has_word _ _ (all_of _ _ (all_of _ _ (a_register rd a) (a_register rs1 b)) (a_register rs2 c))
computed_encodes computation.Xor rd rs1 rs2 a b c = has_word _ _ (all_of _ _ (all_of _ _ (a_register rd a) (a_register rs1 b)) (a_register rs2 c))
computed_encodes computation.Srl rd rs1 rs2 a b c = has_word _ _ (all_of _ _ (all_of _ _ (a_register rd a) (a_register rs1 b)) (a_register rs2 c))
computed_encodes computation.Sra rd rs1 rs2 a b c = has_word _ _ (all_of _ _ (all_of _ _ (a_register rd a) (a_register rs1 b)) (a_register rs2 c))
computed_encodes computation.Or rd rs1 rs2 a b c = has_word _ _ (all_of _ _ (all_of _ _ (a_register rd a) (a_register rs1 b)) (a_register rs2 c))
computed_encodes computation.And rd rs1 rs2 a b c = has_word _ _ (all_of _ _ (all_of _ _ (a_register rd a) (a_register rs1 b)) (a_register rs2 c))
computed_encodes computation.Mul rd rs1 rs2 a b c = has_word _ _ (all_of _ _ (all_of _ _ (a_register rd a) (a_register rs1 b)) (a_register rs2 c))
computed_encodes computation.Mulh rd rs1 rs2 a b c = has_word _ _ (all_of _ _ (all_of _ _ (a_register rd a) (a_register rs1 b)) (a_register rs2 c))
computed_encodes computation.Mulhsu rd rs1 rs2 a b c = has_word _ _ (all_of _ _ (all_of _ _ (a_register rd a) (a_register rs1 b)) (a_register rs2 c))
computed_encodes computation.Mulhu rd rs1 rs2 a b c = has_word _ _ (all_of _ _ (all_of _ _ (a_register rd a) (a_register rs1 b)) (a_register rs2 c))
computed_encodes computation.Div rd rs1 rs2 a b c = has_word _ _ (all_of _ _ (all_of _ _ (a_register rd a) (a_register rs1 b)) (a_register rs2 c))
computed_encodes computation.Divu rd rs1 rs2 a b c = has_word _ _ (all_of _ _ (all_of _ _ (a_register rd a) (a_register rs1 b)) (a_register rs2 c))
computed_encodes computation.Rem rd rs1 rs2 a b c = has_word _ _ (all_of _ _ (all_of _ _ (a_register rd a) (a_register rs1 b)) (a_register rs2 c))
computed_encodes computation.Remu rd rs1 rs2 a b c = has_word _ _ (all_of _ _ (all_of _ _ (a_register rd a) (a_register rs1 b)) (a_register rs2 c))

pub computed_immediate_encodes : (operation : ImmediateComputation) (rd rs1 : ℕ) (imm : ℤ) → rd < 32 → rs1 < 32 → negsuc 2047 ≤ℤ imm → imm ≤ℤ pos 2047 → IsSome (encoded (computed_immediate operation rd rs1 imm))
unfolding encoded encoded_computation
computed_immediate_encodes immediate.Addi rd rs1 imm a b low high = has_word _ _ (all_of _ _ (all_of _ _ (a_register rd a) (a_register rs1 b)) (an_immediate imm low high))
computed_immediate_encodes immediate.Slti rd rs1 imm a b low high = has_word _ _ (all_of _ _ (all_of _ _ (a_register rd a) (a_register rs1 b)) (an_immediate imm low high))
computed_immediate_encodes immediate.Sltiu rd rs1 imm a b low high = has_word _ _ (all_of _ _ (all_of _ _ (a_register rd a) (a_register rs1 b)) (an_immediate imm low high))
computed_immediate_encodes immediate.Xori rd rs1 imm a b low high = has_word _ _ (all_of _ _ (all_of _ _ (a_register rd a) (a_register rs1 b)) (an_immediate imm low high))
computed_immediate_encodes immediate.Ori rd rs1 imm a b low high = has_word _ _ (all_of _ _ (all_of _ _ (a_register rd a) (a_register rs1 b)) (an_immediate imm low high))
computed_immediate_encodes immediate.Andi rd rs1 imm a b low high = has_word _ _ (all_of _ _ (all_of _ _ (a_register rd a) (a_register rs1 b)) (an_immediate imm low high))

pub shifted_encodes : (operation : Shift) (rd rs1 : ℕ) (imm : ℤ) → rd < 32 → rs1 < 32 → pos 0 ≤ℤ imm → imm ≤ℤ pos 31 → IsSome (encoded (shifted operation rd rs1 imm))
unfolding encoded encoded_computation
shifted_encodes shift.Slli rd rs1 imm a b low high = has_word _ _ (all_of _ _ (all_of _ _ (a_register rd a) (a_register rs1 b)) (an_unsigned 5 31 imm low high (lit< tt)))
shifted_encodes shift.Srli rd rs1 imm a b low high = has_word _ _ (all_of _ _ (all_of _ _ (a_register rd a) (a_register rs1 b)) (an_unsigned 5 31 imm low high (lit< tt)))
shifted_encodes shift.Srai rd rs1 imm a b low high = has_word _ _ (all_of _ _ (all_of _ _ (a_register rd a) (a_register rs1 b)) (an_unsigned 5 31 imm low high (lit< tt)))

pub loaded_encodes : (operation : Load) (rd rs1 : ℕ) (imm : ℤ) → rd < 32 → rs1 < 32 → negsuc 2047 ≤ℤ imm → imm ≤ℤ pos 2047 → IsSome (encoded (loaded operation rd rs1 imm))
unfolding encoded encoded_computation
loaded_encodes load.Jalr rd rs1 imm a b low high = has_word _ _ (all_of _ _ (all_of _ _ (a_register rd a) (a_register rs1 b)) (an_immediate imm low high))
loaded_encodes load.Lb rd rs1 imm a b low high = has_word _ _ (all_of _ _ (all_of _ _ (a_register rd a) (a_register rs1 b)) (an_immediate imm low high))
loaded_encodes load.Lh rd rs1 imm a b low high = has_word _ _ (all_of _ _ (all_of _ _ (a_register rd a) (a_register rs1 b)) (an_immediate imm low high))
loaded_encodes load.Lw rd rs1 imm a b low high = has_word _ _ (all_of _ _ (all_of _ _ (a_register rd a) (a_register rs1 b)) (an_immediate imm low high))
loaded_encodes load.Lbu rd rs1 imm a b low high = has_word _ _ (all_of _ _ (all_of _ _ (a_register rd a) (a_register rs1 b)) (an_immediate imm low high))
loaded_encodes load.Lhu rd rs1 imm a b low high = has_word _ _ (all_of _ _ (all_of _ _ (a_register rd a) (a_register rs1 b)) (an_immediate imm low high))

pub stored_encodes : (operation : Store) (rs1 rs2 : ℕ) (imm : ℤ) → rs1 < 32 → rs2 < 32 → negsuc 2047 ≤ℤ imm → imm ≤ℤ pos 2047 → IsSome (encoded (stored operation rs1 rs2 imm))
unfolding encoded encoded_computation
stored_encodes store.Sb rs1 rs2 imm a b low high = has_word _ _ (all_of _ _ (all_of _ _ (a_register rs1 a) (a_register rs2 b)) (an_immediate imm low high))
stored_encodes store.Sh rs1 rs2 imm a b low high = has_word _ _ (all_of _ _ (all_of _ _ (a_register rs1 a) (a_register rs2 b)) (an_immediate imm low high))
stored_encodes store.Sw rs1 rs2 imm a b low high = has_word _ _ (all_of _ _ (all_of _ _ (a_register rs1 a) (a_register rs2 b)) (an_immediate imm low high))

pub upper_encodes : (operation : Upper) (rd : ℕ) (imm : ℤ) → rd < 32 → pos 0 ≤ℤ imm → imm ≤ℤ pos 0xfffff → IsSome (encoded (upper_loaded operation rd imm))
unfolding encoded encoded_computation
upper_encodes upper.Lui rd imm a low high = has_word _ _ (all_of _ _ (a_register rd a) (an_unsigned 20 0xfffff imm low high (lit< tt)))
upper_encodes upper.Auipc rd imm a low high = has_word _ _ (all_of _ _ (a_register rd a) (an_unsigned 20 0xfffff imm low high (lit< tt)))

pub accessed_encodes : (operation : CsrAccess) (rd rs1 csr : ℕ) → rd < 32 → rs1 < 32 → csr < 4096 → IsSome (encoded (accessed operation rd rs1 csr))
unfolding encoded encoded_computation
accessed_encodes access.Write rd rs1 csr a b c = has_word _ _ (all_of _ _ (all_of _ _ (a_register rd a) (a_register rs1 b)) (a_csr csr c))
accessed_encodes access.Set rd rs1 csr a b c = has_word _ _ (all_of _ _ (all_of _ _ (a_register rd a) (a_register rs1 b)) (a_csr csr c))
accessed_encodes access.Clear rd rs1 csr a b c = has_word _ _ (all_of _ _ (all_of _ _ (a_register rd a) (a_register rs1 b)) (a_csr csr c))

pub accessed_immediate_encodes : (operation : CsrAccess) (rd : ℕ) (imm : ℤ) (csr : ℕ) → rd < 32 → pos 0 ≤ℤ imm → imm ≤ℤ pos 31 → csr < 4096 → IsSome (encoded (accessed_immediate operation rd imm csr))
unfolding encoded encoded_computation
accessed_immediate_encodes access.Write rd imm csr a low high c = has_word _ _ (all_of _ _ (all_of _ _ (a_register rd a) (an_unsigned 5 31 imm low high (lit< tt))) (a_csr csr c))
accessed_immediate_encodes access.Set rd imm csr a low high c = has_word _ _ (all_of _ _ (all_of _ _ (a_register rd a) (an_unsigned 5 31 imm low high (lit< tt))) (a_csr csr c))
accessed_immediate_encodes access.Clear rd imm csr a low high c = has_word _ _ (all_of _ _ (all_of _ _ (a_register rd a) (an_unsigned 5 31 imm low high (lit< tt))) (a_csr csr c))
