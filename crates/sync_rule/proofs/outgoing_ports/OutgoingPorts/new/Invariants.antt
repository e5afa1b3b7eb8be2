use Rattle.std.proofs.Common.{◌≡◌, map, take}
use Rattle.sync_rule.specs.Ports.{first_out}
use Rattle.sync_rule.proofs.outgoing_ports.OutgoingPorts.new.Given as goal

abbrev pub invariant-loop-plan : goal.invariant-loop-plan
invariant-loop-plan l = l.items.items ≡ map first_out (take l.plan-index l.plans)
