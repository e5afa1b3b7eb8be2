use Rattle.run_threads.specs.Seats.{TakenSoFar}
use Rattle.run_threads.proofs.seats.take_at.Given as goal

abbrev pub invariant-loop-place : goal.invariant-loop-place
invariant-loop-place g l = TakenSoFar l.place-index l.fn.slots l.places l.slots l.taken.items
