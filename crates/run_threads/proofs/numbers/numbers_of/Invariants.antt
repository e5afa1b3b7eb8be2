use Rattle.run_threads.specs.Numbers.{AreNumbers}
use Rattle.run_threads.proofs.numbers.numbers_of.Given as goal

abbrev pub invariant-loop-port : goal.invariant-loop-port
invariant-loop-port l = AreNumbers l.seats l.component l.port l.numbers.items
