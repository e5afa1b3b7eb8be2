use Rattle.switch_sim.proofs.Chained.{none_chained}
use Rattle.switch_sim.proofs.chains.Chains.new.Goals as goal

pub invariant_of-result : goal.invariant_of-result
invariant_of-result c = rw (c.in_ok-vec.ensures.items_if_clones_equal (λ y e. e)) (rw (c.in_ok-vec-2.ensures.items_if_clones_equal (λ y e. e)) none_chained)
