use Rattle.std.proofs.Common.{◌≡◌, ◌+◌, length}
use Rattle.pipe_wires.proofs.ring.fill.Given as goal

abbrev pub invariant-loop-at : goal.invariant-loop-at
invariant-loop-at l = record {
  same : length l.held.items + l.held.spare ≡ length l.fn.held.items + l.fn.held.spare;
  left : l.held.spare + l.at ≡ l.fn.held.spare;
}
