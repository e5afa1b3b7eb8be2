use Rattle.std.proofs.Common.{◌≡◌, ◌++◌, drop, map}
use Rattle.std.specs.List.{flat_map}
use Rattle.run_threads.specs.Queues.{as_empty}
use Rattle.run_threads.specs.Proxied.{queues_along, AreSides}
use Rattle.run_threads.proofs.queues.build_along.Given as goal

abbrev pub invariant-loop-link : goal.invariant-loop-link
invariant-loop-link l = record {
  so_far : map as_empty l.made.queues.items ++ flat_map (queues_along l.kinds) (drop l.link-index l.links) ≡ flat_map (queues_along l.kinds) l.links;
  sides : AreSides l.made.queues.items l.made.producers.items l.made.consumers.items;
}
