use Rattle.mesh_core.specs.Walk.{CarriesEach}
use Rattle.mesh_core.proofs.mesh.Mesh.carry_each.Given as goal

abbrev pub invariant-channels : goal.invariant-channels
invariant-channels g l = CarriesEach g.V.Device.behaviour l.awake l.channel l.fn.self l.self l.woken.moved
