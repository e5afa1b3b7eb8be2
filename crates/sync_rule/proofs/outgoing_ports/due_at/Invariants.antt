use Rattle.sync_rule.specs.Times.{timer_of}
use Rattle.sync_rule.specs.Soonest.{Soonest}
use Rattle.sync_rule.specs.ManyPorts.{WaitBelow}
use Rattle.sync_rule.proofs.outgoing_ports.due_at.Given as goal

abbrev pub invariant-loop-port : goal.invariant-loop-port
invariant-loop-port l = record {
  timer : Soonest timer_of l.items l.port l.timer;
  waits : WaitBelow l.items l.port l.waits;
}
