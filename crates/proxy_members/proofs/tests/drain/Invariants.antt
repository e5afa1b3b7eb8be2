use Rattle.std.proofs.Common.{◌≡◌}
use Rattle.proxy_members.proofs.tests.drain.Given as goal

abbrev pub invariant-loop-count : goal.invariant-loop-count
invariant-loop-count l = l.end.queue ≡ l.queue.name
