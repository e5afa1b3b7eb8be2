use Rattle.std.proofs.Common.{length}
use Rattle.run_threads.proofs.PutBack.{IsPutting}
use Rattle.run_threads.proofs.seats.put_back.Given as goal

abbrev pub invariant-items : goal.invariant-items
invariant-items g l = IsPutting l.fn.items.items l.places l.fn.slots l.left l.slots

abbrev pub decreases-items : goal.decreases-items
decreases-items g l = length l.left
