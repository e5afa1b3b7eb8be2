use Rattle.mesh_core.proofs.Going.{can_step}
use Rattle.mesh_core.proofs.laws.no_mesh_is_stuck.Goals as goal

pub returns : goal.returns
returns g c = can_step g.V.Device.behaviour g.V.Device.settled
