use Rattle.mesh_core.proofs.Walked.{walks_lower}
use Rattle.mesh_core.proofs.laws.a_walk_keeps_a_mesh_standing.Goals as goal

pub returns : goal.returns
returns g c = walks_lower g.V.Device.behaviour g.V.Device.settled g.met.V.Device.lawful
