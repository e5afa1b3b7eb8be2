use Rattle.std.proofs.Common.{ℕ, ◌<◌}
use Rattle.cosim_cmd.specs.RunWords.{IsWorkers}
use Rattle.cosim_cmd.proofs.run_words.workers_of.Given as goal

abbrev pub invariant-numbers : goal.invariant-numbers
invariant-numbers l = (n : ℕ) → n < l.workers → IsWorkers l.value n → ⊥
