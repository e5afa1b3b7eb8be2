use Rattle.moment_tree.proofs.Ways.{IsLeastBelow}
use Rattle.moment_tree.proofs.keys.least_beside.Given as goal

abbrev pub invariant-loop-node : goal.invariant-loop-node
invariant-loop-node l = IsLeastBelow l.components l.keys l.component l.node l.least

abbrev pub decreases-loop-node : goal.decreases-loop-node
decreases-loop-node l = l.node
