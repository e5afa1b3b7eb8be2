use Rattle.proxy_crew.proofs.Dialed.{IsUnderWay}
use Rattle.proxy_crew.proofs.dialing.dial_all.Given as goal

abbrev pub invariant-loop-route : goal.invariant-loop-route
invariant-loop-route g l = IsUnderWay g.O.WireOut.seen g.I.WireIn.seen l.fn.routes l.fn.near.items l.fn.far.items (g.D.Dialer.seen l.fn.dial) (g.D.Dialer.seen l.dial) l.route-index l.nears l.fars l.made
