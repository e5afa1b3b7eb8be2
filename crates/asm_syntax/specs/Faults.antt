-- What is wrong with a line: of several faults the one of the least number.
use Rattle.std.specs.Prelude.{ℕ, nat_le, ◌≡◌, Result, Ok, Err, if◌then◌else◌}
use Rattle.asm_syntax.specs.declared.line.LineBad.{LineBad}
use Rattle.asm_syntax.specs.declared.line.LineBad.TheVariants.{BadLine, UnknownWord, BadRegister, OutOfRange}

abbrev pub fault_number : LineBad → ℕ
fault_number BadLine = 1
fault_number UnknownWord = 2
fault_number BadRegister = 3
fault_number (OutOfRange size) = 4

-- two parts of a line, or the fault of the least number among theirs
abbrev pub both : {A B : Type 0} → Result A LineBad → Result B LineBad → Result (A × B) LineBad
both (Ok a) (Ok b) = Ok (a, b)
both (Ok a) (Err bad) = Err bad
both (Err bad) (Ok b) = Err bad
both (Err bad) (Err other) = Err (if nat_le (fault_number bad) (fault_number other) then bad else other)

infixl 10 ◌>>=◌
abbrev pub ◌>>=◌ : {A B : Type 0} → Result A LineBad → (A → Result B LineBad) → Result B LineBad
(Ok x) >>= f = f x
(Err bad) >>= f = Err bad

-- what a function returned, seen by view, is what a definition reads
abbrev pub Gives : {X Y : Type 0} → (X → Y) → Result X LineBad → Result Y LineBad → Type 0
Gives view (Ok x) read = read ≡ Ok (view x)
Gives view (Err bad) read = read ≡ Err bad
