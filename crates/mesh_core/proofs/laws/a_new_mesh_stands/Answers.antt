use Rattle.mesh_core.proofs.Started.{first_is_mesh}
use Rattle.mesh_core.proofs.laws.a_new_mesh_stands.Goals as goal

pub returns : goal.returns
returns g c = first_is_mesh g.V.Device.behaviour g.V.Device.settled g.met.V.Device.lawful
