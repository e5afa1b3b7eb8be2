use Rattle.std.proofs.Common.{◌≡◌, length}
use Rattle.run_threads.proofs.closing.vacant.Given as goal

abbrev pub invariant-loop-slot : goal.invariant-loop-slot
invariant-loop-slot g l = length l.slots.items ≡ l._slot
