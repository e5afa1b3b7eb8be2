-- The words of a statement, and the punctuation between them; blanks may stand before each part.
use Rattle.std.specs.Prelude.{ℕ, ◌==◌, List, length, drop, Result, Ok, Err, if◌then◌else◌}
use Rattle.asm_syntax.specs.declared.line.LineBad.{LineBad}
use Rattle.asm_syntax.specs.declared.line.LineBad.TheVariants.{BadLine}
use Rattle.asm_syntax.specs.declared.class.Class.TheVariants.{Blank, Word}
use Rattle.asm_syntax.specs.Bytes.{front, behind, begins_with}
use Rattle.asm_syntax.specs.Faults.{◌>>=◌}

-- a word, and what follows it
unfoldable pub word_at : List ℕ → Result (List ℕ × List ℕ) LineBad
word_at bytes =
    let start = behind Blank bytes in
    if length (front Word start) == 0 then Err BadLine else Ok (front Word start, behind Word start)

-- what follows a byte
unfoldable pub after_mark : ℕ → List ℕ → Result (List ℕ) LineBad
after_mark mark bytes =
    let start = behind Blank bytes in
    if begins_with (λ byte. byte == mark) start then Ok (drop 1 start) else Err BadLine

-- nothing
unfoldable pub nothing : List ℕ → Result (Unit {0}) LineBad
nothing bytes = if length (behind Blank bytes) == 0 then Ok tt else Err BadLine

-- `a`
unfoldable pub one : List ℕ → Result (List ℕ) LineBad
one bytes = do
  a ← word_at bytes
  end ← nothing a.1
  Ok a.0

-- `a, b`
unfoldable pub two : List ℕ → Result (List ℕ × List ℕ) LineBad
two bytes = do
  a ← word_at bytes
  rest ← after_mark 44 a.1
  b ← one rest
  Ok (a.0, b)

-- `a, b, c`
unfoldable pub three : List ℕ → Result (List ℕ × List ℕ × List ℕ) LineBad
three bytes = do
  a ← word_at bytes
  rest ← after_mark 44 a.1
  others ← two rest
  Ok (a.0, others.0, others.1)

-- `(a)`
unfoldable pub in_parentheses : List ℕ → Result (List ℕ) LineBad
in_parentheses bytes = do
  start ← after_mark 40 bytes
  a ← word_at start
  rest ← after_mark 41 a.1
  end ← nothing rest
  Ok a.0

-- `a, b(c)`
unfoldable pub based : List ℕ → Result (List ℕ × List ℕ × List ℕ) LineBad
based bytes = do
  a ← word_at bytes
  rest ← after_mark 44 a.1
  b ← word_at rest
  c ← in_parentheses b.1
  Ok (a.0, b.0, c)
