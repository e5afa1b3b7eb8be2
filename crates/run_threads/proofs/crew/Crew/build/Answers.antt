use Rattle.std.proofs.Common.{◌≡◌, length, map, refl, sym, ap, ◌∙◌, subst, ◌≤◌, arith}
use Rattle.std.proofs.lemmas.Result.{err_from_is_err_and, IfOk-weaker}
use Rattle.proxy_crew.specs.Dialing.{DialTells, channel_of}
use Rattle.run_threads.specs.Proxied.{proxied}
use Rattle.run_threads.proofs.Routed.{numbers_are}
use Rattle.run_threads.proofs.WholeBuilt.{none_dialed}
use Rattle.run_threads.proofs.crew.Crew.build.Goals as goal

pub returns-in_err-ready-clause-told : goal.returns-in_err-ready-clause-told
returns-in_err-ready-clause-told g c =
    let p = err_from_is_err_and c.from_residual.result c.from_residual.ensures.1 in
    rw (p.1, p.2) (none_dialed (proxied c.args.wiring.now.links) (g.D.Dialer.seen c.args.dial.now) (g.D.Dialer.seen c.args.dial.now) refl)

pub returns-clause-built : goal.returns-clause-built
returns-clause-built g c = IfOk-weaker c.dial.result _ _ (λ crew builds. builds c.args.devices.items c.args.wiring.now.kinds c.args.wiring.now.links c.args.wiring.now.end c.args.queues.now c.in_ok-ready.ensures.ready) c.dial.ensures.built

pub returns-clause-told : goal.returns-clause-told
returns-clause-told g c = subst (λ l. DialTells c.dial.result l (g.D.Dialer.seen c.args.dial.now) (g.D.Dialer.seen c.dial.new.dial)) (ap (map channel_of) c.in_ok-ready.ensures.ready.routes_are ∙ numbers_are c.args.wiring.now.kinds c.args.wiring.now.links) c.dial.ensures.told
