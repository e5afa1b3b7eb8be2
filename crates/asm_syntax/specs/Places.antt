-- What the places of a statement take.
use Rattle.std.specs.Prelude.{ℕ, ℤ, nat_abs, List, ok_or, Result, Ok, Err, if◌then◌else◌}
use Rattle.asm_syntax.specs.declared.line.LineBad.{LineBad}
use Rattle.asm_syntax.specs.declared.line.LineBad.TheVariants.{BadLine, UnknownWord, BadRegister}
use Rattle.asm_syntax.specs.declared.class.Class.TheVariants.{Name}
use Rattle.asm_syntax.specs.declared.range.Range.{Range}
use Rattle.asm_syntax.specs.declared.range.Range.TheVariants.{CsrNumber}
use Rattle.asm_syntax.specs.Bytes.{are_all, is_name}
use Rattle.asm_syntax.specs.Faults.{◌>>=◌}
use Rattle.asm_syntax.specs.Numbers.{number_of, in_range}
use Rattle.asm_syntax.specs.Registers.{register_named, csr_named}

-- a register: any word of letters, digits and `_` has its shape
unfoldable pub register : List ℕ → Result ℕ LineBad
register word = if are_all Name word then ok_or (register_named word) BadRegister else Err BadLine

-- a number of a range
unfoldable pub number : Range → List ℕ → Result ℤ LineBad
number range word = in_range range (number_of word)

-- the same of a range without negative numbers
abbrev pub natural : Range → List ℕ → Result ℕ LineBad
natural range word = number range word >>= (λ n. Ok (nat_abs n))

-- a label, which is its word
unfoldable pub label : List ℕ → Result (Unit {0}) LineBad
label word = if is_name word then Ok tt else Err BadLine

-- a CSR: its name, or its number
unfoldable pub csr : List ℕ → Result ℕ LineBad
csr word =
    if is_name word then ok_or (csr_named word) UnknownWord else natural CsrNumber word
