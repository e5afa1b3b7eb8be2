use Rattle.std.proofs.Common.{length}
use Rattle.global_model.specs.Inboxes.{end_at}
use Rattle.global_model.specs.Turn.{queue_at}
use Rattle.global_model.proofs.TurnLaws.{TakesPort}
use Rattle.global_model.proofs.turn.take_from_port.Given as goal

abbrev pub invariant-messages : goal.invariant-messages
invariant-messages g l = TakesPort g.V.Device.behaviour g.V.Device.settled l.moment.at l.port (end_at l.moment.component l.port) l.initial.device l.initial.done l.initial.inboxes l.device l.done l.inboxes

abbrev pub decreases-messages : goal.decreases-messages
decreases-messages g l = length (queue_at l.inboxes (end_at l.moment.component l.port))
