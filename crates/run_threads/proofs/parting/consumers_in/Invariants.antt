use Rattle.std.proofs.Common.{◌≡◌, ◌≤◌, length, vec_len}
use Rattle.std.specs.Prelude.{vec_capacity}
use Rattle.slot_queue.specs.declared.ends.RxEnd.{RxEnd}
use Rattle.run_threads.proofs.Parted.{IsSeating}
use Rattle.run_threads.proofs.parting.consumers_in.Given as goal

abbrev pub invariant-slots : goal.invariant-slots
invariant-slots l = record {
  seating : IsSeating (λ (end : RxEnd). end.seat) l.fn.slots.items l.left l.consumers.items;
  sides_so_far : vec_len l.consumers ≡ length l.consumers.items;
  for_sides : length l.fn.slots.items ≤ vec_capacity l.consumers;
}

abbrev pub decreases-slots : goal.decreases-slots
decreases-slots l = length l.left
