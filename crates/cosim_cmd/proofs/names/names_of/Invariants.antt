use Rattle.std.proofs.Common.{◌≡◌, take}
use Rattle.topology_file.specs.Ports.{names_of}
use Rattle.cosim_cmd.proofs.names.names_of.Given as goal

abbrev pub invariant-loop-component : goal.invariant-loop-component
invariant-loop-component l = l.names.items ≡ names_of (take l.component-index l.components)
