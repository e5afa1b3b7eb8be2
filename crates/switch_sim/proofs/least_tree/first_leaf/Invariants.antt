use Rattle.switch_sim.proofs.LeastTrees.{IsLowered}
use Rattle.switch_sim.proofs.least_tree.first_leaf.Given as goal

abbrev pub invariant-loop-level : goal.invariant-loop-level
invariant-loop-level l = IsLowered l.nodes l.limit l._level l.node
