use Rattle.replay_run.proofs.Determined.{one_outcome}
use Rattle.replay_run.proofs.laws.a_replay_has_one_outcome.Goals as goal

pub returns : goal.returns
returns g c = one_outcome g.V.Device.behaviour
