use Rattle.std.proofs.Common.{◌≡◌, map, take}
use Rattle.sync_rule.specs.Ports.{first_in}
use Rattle.sync_rule.proofs.incoming_ports.IncomingPorts.new.Given as goal

abbrev pub invariant-loop-plan : goal.invariant-loop-plan
invariant-loop-plan l = l.items.items ≡ map first_in (take l.plan-index l.plans)
