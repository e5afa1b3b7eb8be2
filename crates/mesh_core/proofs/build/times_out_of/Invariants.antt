use Rattle.std.proofs.Common.{◌≡◌, drop}
use Rattle.mesh_core.specs.Start.{times_from}
use Rattle.mesh_core.proofs.build.times_out_of.Given as goal

abbrev pub invariant-loop-link : goal.invariant-loop-link
invariant-loop-link l = times_from (drop l.link-index l.links) (record { component = l.component; port = l.port }) ≡ times_from l.links (record { component = l.component; port = l.port })
