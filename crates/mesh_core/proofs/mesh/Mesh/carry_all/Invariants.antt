use Rattle.std.proofs.Common.{◌≡◌}
use Rattle.mesh_core.specs.Walk.{Went}
use Rattle.mesh_core.proofs.Numbered.{number_of}
use Rattle.mesh_core.proofs.mesh.Mesh.carry_all.Given as goal

abbrev pub invariant-messages : goal.invariant-messages
invariant-messages g l = record {
  went : Went g.V.Device.behaviour l.fn.self l.self l.moved;
  same : l.seen.mesh.value ≡ l.self;
}

abbrev pub decreases-messages : goal.decreases-messages
decreases-messages g l = number_of g.V.Device.behaviour g.V.Device.settled g.met.V.Device.lawful l.seen.mesh.value l.seen.known
