use Rattle.std.proofs.Common.{◌≡◌, drop}
use Rattle.topology_file.specs.Refusals.{ports_refusal}
use Rattle.topology_file.proofs.free_ports.free_port.Given as goal

abbrev pub invariant-loop-component : goal.invariant-loop-component
invariant-loop-component l = ports_refusal l.joined.links l.component (drop l.component l.kinds) ≡ ports_refusal l.joined.links 0 l.kinds
