use Rattle.std.proofs.Common.{◌≡◌, ◌++◌, map, length, reverse, Some}
use Rattle.run_threads.proofs.seats.loosen.Given as goal

abbrev pub invariant-items : goal.invariant-items
invariant-items g l = l.slots.items ++ map Some (reverse l.left) ≡ map Some l.fn.items.items

abbrev pub decreases-items : goal.decreases-items
decreases-items g l = length l.left
