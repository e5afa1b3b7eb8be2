use Rattle.cs_base.specs.Plan.{PortsInOneLink}
use Rattle.cs_base.proofs.plan.ports_in_one_link.Given as goal

abbrev pub invariant-loop-port : goal.invariant-loop-port
invariant-loop-port l = PortsInOneLink l.links l.component l.port
