use Rattle.std.proofs.Common.{◌-◌, ◌≤◌}
use Rattle.global_model.proofs.TurnLaws.{TakesArrivals}
use Rattle.global_model.proofs.turn.take_arrivals.Given as goal

abbrev pub invariant-filled : goal.invariant-filled
invariant-filled g l = record {
  takes : TakesArrivals g.V.Device.behaviour g.V.Device.settled l.moment.at l.moment.component l.port l.initial.device l.initial.inboxes l.device l.done l.inboxes;
  within : l.port ≤ l.ports;
}

abbrev pub decreases-filled : goal.decreases-filled
decreases-filled g l = l.ports - l.port
