use Rattle.std.proofs.Common.{◌≡◌, ◌≤◌, ◌+◌, ◌++◌, length, drop, reverse}
use Rattle.std.specs.Prelude.{vec_capacity}
use Rattle.run_threads.specs.Merging.{vias_of, with_before}
use Rattle.run_threads.proofs.merging.merge_before.Given as goal

abbrev pub invariant-loop-link : goal.invariant-loop-link
invariant-loop-link g l = record {
  to_come : l.all.items ++ with_before (vias_of (drop l.link-index l.links)) (reverse l.own) (reverse l.others) ≡ with_before (vias_of l.links) l.fn.own.items l.fn.others.items;
  room : length l.own + length l.others + length l.all.items ≤ vec_capacity l.all;
}
