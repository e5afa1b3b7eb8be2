-- What `asm` answers of a source: its bytes, or the first line at fault.
use Rattle.std.specs.Prelude.{ℕ, ◌≡◌, List, Ok, Err}
use Rattle.rv32_asm.specs.Assembled.{assembled}
use Rattle.rv32_asm.specs.declared.reason.AsmReason.{AsmReason}
use Rattle.cosim_cmd.specs.Lines.{asm_line}

abbrev pub IsAssembled : List ℕ → List ℕ → Type 0
IsAssembled source bytes = assembled source ≡ Ok bytes

-- the source is refused, and the line says at which of its lines and why
pub record IsNoProgram (source line : List ℕ) : Type 0 where
  pub number : ℕ
  pub reason : AsmReason
  pub refused : assembled source ≡ Err (number, reason)
  pub named : line ≡ asm_line number reason
