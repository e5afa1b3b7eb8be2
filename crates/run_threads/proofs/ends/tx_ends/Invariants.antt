use Rattle.std.proofs.Common.{◌≡◌, ◌++◌, map, length, reverse}
use Rattle.slot_queue.specs.declared.ends.TxEnd.{TxEnd}
use Rattle.run_threads.proofs.ends.tx_ends.Given as goal

abbrev pub invariant-sides : goal.invariant-sides
invariant-sides l = map (λ (end : TxEnd). end.seat) l.ends.items ++ reverse l.left ≡ l.fn.sides.items

abbrev pub decreases-sides : goal.decreases-sides
decreases-sides l = length l.left
