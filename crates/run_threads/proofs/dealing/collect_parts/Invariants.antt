use Rattle.std.proofs.Common.{◌<◌, ◌≤◌, ◌+◌, length, vec_len}
use Rattle.std.specs.Prelude.{vec_capacity}
use Rattle.run_threads.proofs.Regained.{AreRegaining}
use Rattle.run_threads.proofs.dealing.collect_parts.Given as goal

abbrev pub invariant-numbers : goal.invariant-numbers
invariant-numbers g l = record {
  collecting : AreRegaining l.fn.count l.fn.workers l.number l.workers l.parts.items;
  some_worker : 0 < length l.workers;
  counted : vec_len l.parts + l.number ≤ l.fn.count;
  room : l.fn.count ≤ vec_capacity l.parts;
}

abbrev pub decreases-numbers : goal.decreases-numbers
decreases-numbers g l = l.number
