-- What a function that takes memory may answer.
use Rattle.std.specs.Prelude.{◌≡◌, ⊤, Result, Ok, Err}
use Rattle.asm_syntax.specs.declared.line.LineBad.{LineBad}
use Rattle.asm_syntax.specs.declared.stop.Stop.{Stop}
use Rattle.asm_syntax.specs.declared.stop.Stop.TheVariants.{Bad, NoMemory}

-- what is read, unless memory was wanting
abbrev pub Stops : {X : Type 0} → Result X Stop → Result X LineBad → Type 0
Stops (Ok x) read = read ≡ Ok x
Stops (Err (Bad bad)) read = read ≡ Err bad
Stops (Err NoMemory) read = ⊤
