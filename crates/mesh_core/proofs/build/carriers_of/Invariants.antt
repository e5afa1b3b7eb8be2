use Rattle.std.proofs.Common.{◌≡◌, ◌++◌, drop}
use Rattle.mesh_core.specs.Start.{carriers_of}
use Rattle.mesh_core.proofs.build.carriers_of.Given as goal

abbrev pub invariant-loop-link : goal.invariant-loop-link
invariant-loop-link l = l.carriers.items ++ carriers_of l.kinds (drop l.link-index l.links) ≡ carriers_of l.kinds l.links
