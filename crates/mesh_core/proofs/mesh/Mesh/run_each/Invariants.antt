use Rattle.mesh_core.specs.Walk.{RunsEach}
use Rattle.mesh_core.proofs.mesh.Mesh.run_each.Given as goal

abbrev pub invariant-components : goal.invariant-components
invariant-components g l = RunsEach g.V.Device.behaviour l.awake l.component l.fn.self l.self l.woken.moved
