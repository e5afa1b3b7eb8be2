use Rattle.switch_sim.proofs.Files.{none_filed}
use Rattle.switch_sim.proofs.table.Table.new.Goals as goal

pub invariant_of-result : goal.invariant_of-result
invariant_of-result c = (rw c.in_ok-with_capacity.ensures.items (rw c.in_ok-new.ensures (rw c.in_ok-new-2.ensures none_filed)), c.in_ok-with_capacity.ensures.capacity)
