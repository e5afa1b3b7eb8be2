use Rattle.std.proofs.Common.{◌≡◌, ◌≤◌, ◌+◌, ◌++◌, drop, length}
use Rattle.run_threads.specs.Routes.{routes_from}
use Rattle.run_threads.proofs.routes.routes_of.Given as goal

abbrev pub invariant-loop-link : goal.invariant-loop-link
invariant-loop-link l = record {
  so_far : l.routes.items ++ routes_from l.kinds l.channel (drop l.link-index l.links) ≡ routes_from l.kinds 0 l.links;
  number : l.channel ≡ l.link-index + l.link-index;
}
