use Rattle.std.proofs.Common.{◌≡◌, take}
use Rattle.topology_file.specs.Ports.{kinds_of}
use Rattle.topology_file.proofs.ports.kinds_of.Given as goal

abbrev pub invariant-loop-component : goal.invariant-loop-component
invariant-loop-component l = l.kinds ≡ kinds_of (take l.component-index l.components)
