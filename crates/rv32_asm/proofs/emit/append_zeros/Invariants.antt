use Rattle.std.proofs.Common.{◌≡◌, ◌++◌, replicate}
use Rattle.rv32_asm.proofs.emit.append_zeros.Given as goal

abbrev pub invariant-loop : goal.invariant-loop
invariant-loop l = l.out ≡ l.fn.out ++ replicate l.counter 0
