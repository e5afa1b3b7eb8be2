use Rattle.std.proofs.Common.{◌≡◌, ◌+◌, ◌-◌, ◌*◌, ◌≤◌, []}
use Rattle.global_model.specs.Tallied.{AreTallied}
use Rattle.global_model.specs.UnderWay.{System, Stands}
use Rattle.global_model.proofs.global_run.run_until.Given as goal

abbrev pub invariant-moments : goal.invariant-moments
invariant-moments g l = record {
  stands : (system : System g.row.V.Denot) → Stands g.V.Device.behaviour g.V.Device.settled system l.routes l.fn.from 0 l.initial.components.items l.initial.inboxes l.initial.agenda → l.until ≤ system.end → Stands g.V.Device.behaviour g.V.Device.settled system l.routes l.time l.turn l.components.items l.inboxes l.agenda;
  tallied : (system : System g.row.V.Denot) → Stands g.V.Device.behaviour g.V.Device.settled system l.routes l.fn.from 0 l.initial.components.items l.initial.inboxes l.initial.agenda → l.until ≤ system.end → AreTallied g.V.Device.behaviour system l.fn.from 0 l.initial.tallies → AreTallied g.V.Device.behaviour system l.time l.turn l.tallies;
  early : l.time ≤ l.until;
  ended : l.time ≡ l.until → l.turn ≡ 0;
  nothing_sent : l.done.sends ≡ [];
  nothing_logged : l.done.lines ≡ [];
}

abbrev pub decreases-moments : goal.decreases-moments
decreases-moments g l = (l.until - l.time) * 64 + (64 - l.turn)
