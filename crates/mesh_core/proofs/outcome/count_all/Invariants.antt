use Rattle.std.proofs.Common.{◌≡◌, ◌≤◌, length, take, vec_len}
use Rattle.std.specs.Prelude.{vec_capacity}
use Rattle.mesh_core.specs.Left.{counts_along}
use Rattle.mesh_core.proofs.outcome.count_all.Given as goal

abbrev pub invariant-loop-way : goal.invariant-loop-way
invariant-loop-way l = record {
  counted : l.counts.items ≡ counts_along (take l.way-index l.ways) l.by_port;
  pushed : vec_len l.counts ≡ l.way-index;
  room : length l.ways ≤ vec_capacity l.counts;
}
