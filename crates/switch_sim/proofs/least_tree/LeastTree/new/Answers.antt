use Rattle.switch_sim.proofs.LeastTrees.{zeros_are_least, zeros_dropped}
use Rattle.switch_sim.proofs.least_tree.LeastTree.new.Goals as goal

pub invariant_of-result : goal.invariant_of-result
invariant_of-result c = rw (c.in_ok-vec.ensures.items_if_clones_equal (λ y e. e)) zeros_are_least

pub returns : goal.returns
returns c = rw (c.in_ok-vec.ensures.items_if_clones_equal (λ y e. e)) zeros_dropped
