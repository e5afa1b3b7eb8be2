use Rattle.std.proofs.Common.{◌∙◌, map, reverse, ap, sym, subst, arith}
use Rattle.std.proofs.lemmas.Result.{err_from_is_err_and}
use Rattle.proxy_crew.specs.Dialing.{AreDialed, channel_of}
use Rattle.proxy_crew.proofs.Dialed.{begins, near_left, far_left, near_unused, far_unused, far_kind, route_at, route_there, channel_there, bad_told, no_room, goes_on, all_made, all_told}
use Rattle.proxy_crew.proofs.dialing.dial_all.Goals as goal

pub loop-route-init : goal.loop-route-init
loop-route-init g c = begins g.O.WireOut.seen g.I.WireIn.seen c.args.routes.now c.args.near.items c.args.far.items (g.D.Dialer.seen c.args.dial.now) c.reverse.new.self c.reverse-2.new.self c.new-made.result (c.reverse.ensures ∙ ap reverse c.from_vec-nears.ensures) (c.reverse-2.ensures ∙ ap reverse c.from_vec-fars.ensures) c.new-made.ensures

pub unreachable-requires : goal.unreachable-requires
unreachable-requires g c = near_left g.O.WireOut.seen g.I.WireIn.seen c.args.routes.now c.args.near.items c.args.far.items (g.D.Dialer.seen c.args.dial.now) (g.D.Dialer.seen c.loop-route.dial) c.loop-route.route-index c.loop-route.nears c.loop-route.fars c.loop-route.made c.loop-route.invariant c.loop-route-test.true c.requires.near_each c.in_default.ensures.none

pub unreachable-requires-in_default-pop : goal.unreachable-requires-in_default-pop
unreachable-requires-in_default-pop g c = far_left g.O.WireOut.seen g.I.WireIn.seen c.args.routes.now c.args.near.items c.args.far.items (g.D.Dialer.seen c.args.dial.now) (g.D.Dialer.seen c.loop-route.dial) c.loop-route.route-index c.loop-route.nears c.loop-route.fars c.loop-route.made c.loop-route.invariant c.loop-route-test.true c.requires.kinds c.in_default-pop.ensures.none

pub dial_one-requires-clause-near : goal.dial_one-requires-clause-near
dial_one-requires-clause-near g c = near_unused g.O.WireOut.seen g.I.WireIn.seen c.args.routes.now c.args.near.items c.args.far.items (g.D.Dialer.seen c.args.dial.now) (g.D.Dialer.seen c.loop-route.dial) c.loop-route.route-index c.loop-route.nears c.loop-route.fars c.loop-route.made c.loop-route.invariant (route_at c.args.routes.now c.loop-route.route-index) (route_there c.args.routes.now c.loop-route.route-index c.loop-route-test.true) c.pop.new.self c.in-Some.near c.in-Some.ensures.last c.requires.near

pub dial_one-requires-clause-far : goal.dial_one-requires-clause-far
dial_one-requires-clause-far g c = far_unused g.O.WireOut.seen g.I.WireIn.seen c.args.routes.now c.args.near.items c.args.far.items (g.D.Dialer.seen c.args.dial.now) (g.D.Dialer.seen c.loop-route.dial) c.loop-route.route-index c.loop-route.nears c.loop-route.fars c.loop-route.made c.loop-route.invariant (route_at c.args.routes.now c.loop-route.route-index) (route_there c.args.routes.now c.loop-route.route-index c.loop-route-test.true) c.pop-in-loop-route.new.self c.in-Some-pop.far c.in-Some-pop.ensures.last c.requires.far

pub dial_one-requires-clause-kind : goal.dial_one-requires-clause-kind
dial_one-requires-clause-kind g c = far_kind g.O.WireOut.seen g.I.WireIn.seen c.args.routes.now c.args.near.items c.args.far.items (g.D.Dialer.seen c.args.dial.now) (g.D.Dialer.seen c.loop-route.dial) c.loop-route.route-index c.loop-route.nears c.loop-route.fars c.loop-route.made c.loop-route.invariant (route_at c.args.routes.now c.loop-route.route-index) (route_there c.args.routes.now c.loop-route.route-index c.loop-route-test.true) c.pop-in-loop-route.new.self c.in-Some-pop.far c.in-Some-pop.ensures.last c.requires.kinds

pub returns-in_err-dial_one-clause-told : goal.returns-in_err-dial_one-clause-told
returns-in_err-dial_one-clause-told g c =
    let p = err_from_is_err_and c.from_residual.result c.from_residual.ensures.1 in
    bad_told (map channel_of c.args.routes.now) (g.D.Dialer.seen c.args.dial.now) c.loop-route.route-index (g.D.Dialer.seen c.loop-route.dial) (g.D.Dialer.seen c.dial_one.new.dial) (route_at c.args.routes.now c.loop-route.route-index).channel c.loop-route.invariant.told (channel_there g.O.WireOut.seen g.I.WireIn.seen c.args.routes.now c.args.near.items c.args.far.items (g.D.Dialer.seen c.args.dial.now) (g.D.Dialer.seen c.loop-route.dial) c.loop-route.route-index c.loop-route.nears c.loop-route.fars c.loop-route.made c.loop-route.invariant (route_at c.args.routes.now c.loop-route.route-index) (route_there c.args.routes.now c.loop-route.route-index c.loop-route-test.true)) c.from_residual.result p.0 c.in_err-dial_one.field-0.0 p.1 p.2 c.in_err-dial_one.ensures.told

pub returns-in_err-push-clause-told : goal.returns-in_err-push-clause-told
returns-in_err-push-clause-told g c =
    let p = err_from_is_err_and c.from_residual-in_err-push.result c.from_residual-in_err-push.ensures.1 in
    no_room (map channel_of c.args.routes.now) (g.D.Dialer.seen c.args.dial.now) c.loop-route.route-index (g.D.Dialer.seen c.loop-route.dial) (g.D.Dialer.seen c.dial_one.new.dial) (route_at c.args.routes.now c.loop-route.route-index).channel c.loop-route.invariant.told (channel_there g.O.WireOut.seen g.I.WireIn.seen c.args.routes.now c.args.near.items c.args.far.items (g.D.Dialer.seen c.args.dial.now) (g.D.Dialer.seen c.loop-route.dial) c.loop-route.route-index c.loop-route.nears c.loop-route.fars c.loop-route.made c.loop-route.invariant (route_at c.args.routes.now c.loop-route.route-index) (route_there c.args.routes.now c.loop-route.route-index c.loop-route-test.true)) c.from_residual-in_err-push.result p.0 p.1 p.2 c.in_ok-dial_one.ensures.told

pub loop-route-preserved : goal.loop-route-preserved
loop-route-preserved g c = goes_on g.O.WireOut.seen g.I.WireIn.seen c.args.routes.now c.args.near.items c.args.far.items (g.D.Dialer.seen c.args.dial.now) (g.D.Dialer.seen c.loop-route.dial) c.loop-route.route-index c.loop-route.nears c.loop-route.fars c.loop-route.made c.loop-route.invariant (route_at c.args.routes.now c.loop-route.route-index) (route_there c.args.routes.now c.loop-route.route-index c.loop-route-test.true) (g.D.Dialer.seen c.dial_one.new.dial) c.pop.new.self c.in-Some.near c.pop-in-loop-route.new.self c.in-Some-pop.far c.in_ok-dial_one.field-0 c.in-Some.ensures.last c.in-Some-pop.ensures.last c.in_ok-dial_one.ensures.made c.in_ok-dial_one.ensures.told c.push.new.self c.in_ok-push.ensures.ok

pub returns-clause-made : goal.returns-clause-made
returns-clause-made g c = subst (AreDialed g.O.WireOut.seen g.I.WireIn.seen c.args.routes.now c.args.near.items c.args.far.items) (sym c.into_vec.ensures) (all_made g.O.WireOut.seen g.I.WireIn.seen c.args.routes.now c.args.near.items c.args.far.items (g.D.Dialer.seen c.args.dial.now) (g.D.Dialer.seen c.loop-route.dial) c.loop-route.route-index c.loop-route.nears c.loop-route.fars c.loop-route.made c.loop-route.invariant (omega arith) c.requires.near_each c.requires.kinds)

pub returns-clause-told : goal.returns-clause-told
returns-clause-told g c = all_told g.O.WireOut.seen g.I.WireIn.seen c.args.routes.now c.args.near.items c.args.far.items (g.D.Dialer.seen c.args.dial.now) (g.D.Dialer.seen c.loop-route.dial) c.loop-route.route-index c.loop-route.nears c.loop-route.fars c.loop-route.made c.loop-route.invariant (omega arith)
