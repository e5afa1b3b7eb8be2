use Rattle.std.proofs.Common.{◌≡◌, ◌≤◌, length, vec_len}
use Rattle.std.specs.Prelude.{vec_capacity}
use Rattle.slot_queue.specs.declared.ends.TxEnd.{TxEnd}
use Rattle.run_threads.proofs.Parted.{IsSeating}
use Rattle.run_threads.proofs.parting.producers_in.Given as goal

abbrev pub invariant-slots : goal.invariant-slots
invariant-slots l = record {
  seating : IsSeating (λ (end : TxEnd). end.seat) l.fn.slots.items l.left l.producers.items;
  sides_so_far : vec_len l.producers ≡ length l.producers.items;
  for_sides : length l.fn.slots.items ≤ vec_capacity l.producers;
}

abbrev pub decreases-slots : goal.decreases-slots
decreases-slots l = length l.left
