use Rattle.std.proofs.Common.{◌≡◌, ◌++◌, drop}
use Rattle.mesh_core.specs.Start.{two_each}
use Rattle.mesh_core.proofs.Built.{way_forth, way_back}
use Rattle.mesh_core.proofs.build.ways_of.Given as goal

abbrev pub invariant-loop-link : goal.invariant-loop-link
invariant-loop-link l = l.ways.items ++ two_each way_forth way_back (drop l.link-index l.links) ≡ two_each way_forth way_back l.links
