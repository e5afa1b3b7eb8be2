use Rattle.std.proofs.Common.{length}
use Rattle.sync_rule.proofs.Posted.{Posting}
use Rattle.sync_rule.proofs.outgoing_ports.OutgoingPorts.post_all.Given as goal

abbrev pub invariant-sends : goal.invariant-sends
invariant-sends l = Posting l.t l.fn.self l.fn.sends l.self l.sends

abbrev pub decreases-sends : goal.decreases-sends
decreases-sends l = length l.sends
