use Rattle.sync_laws.proofs.Ahead.{is_ready}
use Rattle.sync_laws.proofs.standing.what_stands_is_ready.Goals as goal

pub returns : goal.returns
returns g c = λ start position received sent r stands. is_ready g.V.Device.behaviour g.V.Device.settled g.met.V.Device.lawful start position received sent r stands
