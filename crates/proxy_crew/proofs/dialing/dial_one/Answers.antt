use Rattle.proxy_crew.proofs.Dialed.{one_bad}
use Rattle.proxy_crew.proofs.dialing.dial_one.Goals as goal

pub returns-clause-told : goal.returns-clause-told
returns-clause-told g c = one_bad c.args.route.channel c.in-Err.bad c.dial.result (g.D.Dialer.seen c.args.dial.now) (g.D.Dialer.seen c.dial.new.self) c.in-Err.is c.dial.ensures.dialed c.dial.ensures.never_falls c.dial.ensures.failed c.bad_of.result c.bad_of.ensures
