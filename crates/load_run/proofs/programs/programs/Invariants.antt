use Rattle.std.proofs.Common.{◌≡◌, replicate}
use Rattle.load_run.proofs.programs.programs.Given as goal

abbrev pub invariant-loop-number : goal.invariant-loop-number
invariant-loop-number l = l.images.items ≡ replicate l.number l.program
