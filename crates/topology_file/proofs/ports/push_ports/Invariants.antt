use Rattle.std.proofs.Common.{◌≡◌, ◌++◌, replicate}
use Rattle.topology_file.proofs.ports.push_ports.Given as goal

abbrev pub invariant-loop-port : goal.invariant-loop-port
invariant-loop-port l = l.ports ≡ l.initial.ports ++ replicate l._port l.kind
