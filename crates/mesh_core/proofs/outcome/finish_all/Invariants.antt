use Rattle.std.proofs.Common.{◌≡◌, ◌≤◌, length, vec_len}
use Rattle.std.specs.Prelude.{vec_capacity}
use Rattle.mesh_core.proofs.Finished.{IsFinishing}
use Rattle.mesh_core.proofs.outcome.finish_all.Given as goal

abbrev pub invariant-runners : goal.invariant-runners
invariant-runners g l = record {
  finishing : IsFinishing l.fn.runners.items l.logs.items l.by_port.items l.left;
  logs_so_far : vec_len l.logs ≡ length l.logs.items;
  counts_so_far : vec_len l.by_port ≡ length l.by_port.items;
  for_logs : length l.fn.runners.items ≤ vec_capacity l.logs;
  for_counts : length l.fn.runners.items ≤ vec_capacity l.by_port;
}

abbrev pub decreases-runners : goal.decreases-runners
decreases-runners g l = length l.left
