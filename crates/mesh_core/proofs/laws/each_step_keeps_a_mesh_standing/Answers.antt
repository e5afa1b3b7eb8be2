use Rattle.mesh_core.proofs.Keeping.{kept}
use Rattle.mesh_core.proofs.laws.each_step_keeps_a_mesh_standing.Goals as goal

pub returns : goal.returns
returns g c = kept g.V.Device.behaviour g.V.Device.settled g.met.V.Device.lawful
