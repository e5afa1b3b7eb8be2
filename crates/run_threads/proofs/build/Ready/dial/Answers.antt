use Rattle.std.proofs.Common.{◌≡◌, length, map, refl, sym, ap, ◌∙◌, subst}
use Rattle.std.proofs.lemmas.Result.{err_from_is_err_and}
use Rattle.proxy_crew.specs.Dialing.{AreDialed, DialedAll, channel_of}
use Rattle.run_threads.proofs.WholeBuilt.{none_received, none_sent, as_many_outs, is_built, all_are_some, as_many_engaged}
use Rattle.run_threads.proofs.build.Ready.dial.Goals as goal

pub dial_all-requires-clause-near : goal.dial_all-requires-clause-near
dial_all-requires-clause-near g c = none_received c.requires.ready.links c.requires.ready.queues c.args.self.staffed.outs.items c.args.self.staffed.ins.items c.requires.ready.is.between

pub dial_all-requires-clause-far : goal.dial_all-requires-clause-far
dial_all-requires-clause-far g c = none_sent c.requires.ready.links c.requires.ready.queues c.args.self.staffed.outs.items c.args.self.staffed.ins.items c.requires.ready.is.between

pub dial_all-requires-clause-near_each : goal.dial_all-requires-clause-near_each
dial_all-requires-clause-near_each g c = as_many_outs c.requires.ready.kinds c.requires.ready.links c.requires.ready.queues c.args.self.staffed.outs.items c.args.self.staffed.ins.items c.requires.ready.is.between ∙ ap length (sym (c.as_slice.ensures.value ∙ c.requires.ready.is.routes_are))

pub returns-in_err-workers-clause-told : goal.returns-in_err-workers-clause-told
returns-in_err-workers-clause-told g c =
    let p = err_from_is_err_and c.from_residual-in_err-workers.result c.from_residual-in_err-workers.ensures.1 in
    rw (p.1, p.2) (all_are_some (map channel_of c.args.self.routes.items) (g.D.Dialer.seen c.args.dial.now) (g.D.Dialer.seen c.dial_all.new.dial) (subst (λ l. DialedAll (map channel_of l) (g.D.Dialer.seen c.args.dial.now) (g.D.Dialer.seen c.dial_all.new.dial)) c.as_slice.ensures.value c.in_ok-proxied.ensures.told))

pub returns-clause-built : goal.returns-clause-built
returns-clause-built g c = is_built g.V.Device.behaviour g.V.Device.settled g.O.WireOut.seen g.I.WireIn.seen c.args.self c.in_ok-proxied.proxied.items _ (subst (λ l. AreDialed g.O.WireOut.seen g.I.WireIn.seen l c.args.self.staffed.outs.items c.args.self.staffed.ins.items c.in_ok-proxied.proxied.items) c.as_slice.ensures.value c.in_ok-proxied.ensures.made) c.in_ok-workers.ensures c.from_vec.ensures refl refl

pub returns-clause-as_many : goal.returns-clause-as_many
returns-clause-as_many g c = as_many_engaged c.args.self.staffed.workers.items c.in_ok-proxied.proxied.items c.in_ok-workers.workers.items c.in_ok-workers.ensures
