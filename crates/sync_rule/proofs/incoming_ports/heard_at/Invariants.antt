use Rattle.sync_rule.specs.Times.{head_of, quiet_of}
use Rattle.sync_rule.specs.Soonest.{Soonest}
use Rattle.sync_rule.proofs.incoming_ports.heard_at.Given as goal

abbrev pub invariant-loop-port : goal.invariant-loop-port
invariant-loop-port l = record {
  head : Soonest head_of l.items l.port l.head;
  quiet : Soonest quiet_of l.items l.port l.quiet;
}
