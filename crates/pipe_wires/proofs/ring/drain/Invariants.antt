use Rattle.std.proofs.Common.{◌≡◌, ◌+◌, length}
use Rattle.pipe_wires.proofs.ring.drain.Given as goal

abbrev pub invariant-loop-at : goal.invariant-loop-at
invariant-loop-at l = length l.held.items + l.held.spare ≡ length l.fn.held.items + l.fn.held.spare
