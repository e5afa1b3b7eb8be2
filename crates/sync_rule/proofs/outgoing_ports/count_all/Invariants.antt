use Rattle.std.proofs.Common.{◌≡◌, ◌≤◌, map, take, vec_len, length}
use Rattle.std.specs.Prelude.{vec_capacity}
use Rattle.sync_rule.specs.Ports.{Out}
use Rattle.sync_rule.proofs.outgoing_ports.count_all.Given as goal

abbrev pub invariant-loop-outgoing : goal.invariant-loop-outgoing
invariant-loop-outgoing l = record {
  counted : l.counts.items ≡ map (λ (o : Out). o.count) (take l.outgoing-index l.items);
  pushed : vec_len l.counts ≡ l.outgoing-index;
  room : length l.items ≤ vec_capacity l.counts;
}
