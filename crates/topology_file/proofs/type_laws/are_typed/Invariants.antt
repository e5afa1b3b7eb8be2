use Rattle.std.proofs.Common.{All, take}
use Rattle.topology_file.specs.Typed.{IsTyped}
use Rattle.topology_file.proofs.type_laws.are_typed.Given as goal

abbrev pub invariant-loop-component : goal.invariant-loop-component
invariant-loop-component l = All IsTyped (take l.component-index l.components)
