use Rattle.std.proofs.Common.{◌≡◌, ◌++◌, map, length, reverse}
use Rattle.slot_queue.specs.declared.ends.RxEnd.{RxEnd}
use Rattle.run_threads.proofs.ends.rx_ends.Given as goal

abbrev pub invariant-sides : goal.invariant-sides
invariant-sides l = map (λ (end : RxEnd). end.seat) l.ends.items ++ reverse l.left ≡ l.fn.sides.items

abbrev pub decreases-sides : goal.decreases-sides
decreases-sides l = length l.left
