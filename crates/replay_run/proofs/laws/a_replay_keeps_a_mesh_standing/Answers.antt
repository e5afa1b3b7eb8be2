use Rattle.replay_run.proofs.Determined.{replay_keeps}
use Rattle.replay_run.proofs.laws.a_replay_keeps_a_mesh_standing.Goals as goal

pub returns : goal.returns
returns g c = λ schedule starts links end. replay_keeps g.V.Device.behaviour g.V.Device.settled c.each_step_keeps_a_mesh_standing.ensures starts links end schedule
