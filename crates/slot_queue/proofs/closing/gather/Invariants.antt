use Rattle.std.proofs.Common.{◌≡◌, ◌≤◌, vec_len, vec_capacity}
use Rattle.std.specs.Mem.Slots.{slots_items, slots_filled, slots_len}
use Rattle.slot_queue.proofs.Gathering.{Gathered}
use Rattle.slot_queue.proofs.closing.gather.Given as goal

abbrev pub invariant-loop-k : goal.invariant-loop-k
invariant-loop-k l =
    (slots_items l.closed.slots ≡ slots_items l.fn.closed.slots)
    × (slots_len l.closed.slots ≡ l.slots)
    × (vec_len l.list ≤ l.k)
    × (l.slots ≤ vec_capacity l.list)
    × Gathered l.first l.slots l.k (slots_items l.fn.closed.slots) (slots_filled l.closed.slots) l.list.items
