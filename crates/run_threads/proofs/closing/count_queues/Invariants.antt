use Rattle.std.proofs.Common.{◌≡◌, ◌≤◌, ◌*◌, take, sum_by}
use Rattle.run_threads.specs.Proxied.{queues_on}
use Rattle.run_threads.proofs.closing.count_queues.Given as goal

abbrev pub invariant-loop-link : goal.invariant-loop-link
invariant-loop-link l = record {
  so_far : l.count ≡ sum_by queues_on (take l.link-index l.links);
  few : l.count ≤ 4 * l.link-index;
}
