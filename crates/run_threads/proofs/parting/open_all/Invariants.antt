use Rattle.std.proofs.Common.{◌≡◌, ◌≤◌, length, reverse, vec_len}
use Rattle.std.specs.Prelude.{vec_capacity}
use Rattle.run_threads.proofs.Parted.{IsOpening}
use Rattle.run_threads.proofs.parting.open_all.Given as goal

abbrev pub invariant-parts : goal.invariant-parts
invariant-parts g l = record {
  opening : IsOpening (reverse l.fn.parts.items) l.left l.runners.items l.senders l.receivers;
  slots_to_send : length l.senders ≡ length l.fn.senders;
  slots_to_receive : length l.receivers ≡ length l.fn.receivers;
  runners_so_far : vec_len l.runners ≡ length l.runners.items;
  for_runners : length l.fn.parts.items ≤ vec_capacity l.runners;
}

abbrev pub decreases-parts : goal.decreases-parts
decreases-parts g l = length l.left
