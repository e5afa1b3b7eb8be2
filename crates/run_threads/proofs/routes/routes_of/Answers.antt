use Rattle.std.proofs.Common.{◌≡◌, ◌+◌, length, refl, arith}
use Rattle.std.proofs.lemmas.Option.{slice_get_read}
use Rattle.run_threads.proofs.Routed.{next_route, all_routes}
use Rattle.run_threads.specs.Routes.{routes_from}
use Rattle.run_threads.proofs.routes.routes_of.Goals as goal

pub loop-link-preserved : goal.loop-link-preserved
loop-link-preserved c = record {
  so_far = next_route c.args.kinds.now c.args.links.now c.loop-link.link-index c.loop-link.channel c.link-item.result c.loop-link.routes.items c.add_link.new.routes.items (routes_from c.args.kinds.now 0 c.args.links.now) (slice_get_read c.args.links.now (length c.args.links.now) c.loop-link.link-index c.link-item.result refl c.loop-link-test.true c.link-item.is) c.in_ok-add_link.ensures c.loop-link.invariant.so_far;
  number = (let was : c.loop-link.channel ≡ c.loop-link.link-index + c.loop-link.link-index = c.loop-link.invariant.number in omega arith);
}

pub returns : goal.returns
returns c = all_routes c.args.kinds.now c.args.links.now c.loop-link.link-index c.loop-link.channel c.loop-link.routes.items (routes_from c.args.kinds.now 0 c.args.links.now) c.loop-link-test.false c.loop-link.invariant.so_far
