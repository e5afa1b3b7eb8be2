use Rattle.sync_laws.proofs.Started.{new_stands}
use Rattle.sync_laws.proofs.standing.a_new_runner_stands.Goals as goal

pub returns : goal.returns
returns g c = λ device plans end at_start short kinds planned. new_stands g.V.Device.behaviour g.V.Device.settled g.met.V.Device.lawful device end plans at_start short kinds planned
