use Rattle.std.proofs.Common.{◌≡◌, ◌<◌, ℕ, Some}
use Rattle.std.specs.Prelude.{slice_get}
use Rattle.run_threads.specs.Numbers.{seat}
use Rattle.run_threads.proofs.numbers.number_of.Given as goal

abbrev pub invariant-loop-number : goal.invariant-loop-number
invariant-loop-number l = (k : ℕ) → k < l.number → slice_get l.seats k ≡ Some (seat l.component l.port) → ⊥
