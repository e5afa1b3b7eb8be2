use Rattle.std.proofs.Common.{ℕ, ◌≤◌, ◌<◌, ◌-◌, ◌/◌, List}
use Rattle.switch_sim.proofs.LeastTrees.{IsMending}
use Rattle.switch_sim.proofs.least_tree.set_leaf.Given as goal

-- the tree is right but for the parent of the node that was set last
pub record IsUnderWay (nodes start : List ℕ) (place value node : ℕ) : Type 0 where
  pub node_from : 1 ≤ node
  pub node_below : node < 8192
  pub mending : IsMending nodes start place value (node / 2)

abbrev pub invariant-loop-node : goal.invariant-loop-node
invariant-loop-node l = IsUnderWay l.nodes l.fn.nodes l.place l.value l.node

abbrev pub decreases-loop-node : goal.decreases-loop-node
decreases-loop-node l = l.node - 1
