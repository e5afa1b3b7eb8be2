use Rattle.sync_rule.specs.ManyPorts.{SentBelow}
use Rattle.sync_rule.proofs.outgoing_ports.waiting_at.Given as goal

abbrev pub invariant-loop-port : goal.invariant-loop-port
invariant-loop-port l = SentBelow l.items l.port
