use Rattle.moment_tree.proofs.Ways.{IsPlaced}
use Rattle.moment_tree.proofs.keys.place.Given as goal

abbrev pub invariant-loop-node : goal.invariant-loop-node
invariant-loop-node l = IsPlaced l.components l.component l.key l.fn.keys l.keys l.node l.least

abbrev pub decreases-loop-node : goal.decreases-loop-node
decreases-loop-node l = l.node
