use Rattle.mesh_core.specs.MeshOf.{IsMesh}
use Rattle.pair_tests.proofs.stepped.walk.Given as goal

abbrev pub invariant-loop-step : goal.invariant-loop-step
invariant-loop-step g l = IsMesh g.V.Device.behaviour g.V.Device.settled l.mesh
