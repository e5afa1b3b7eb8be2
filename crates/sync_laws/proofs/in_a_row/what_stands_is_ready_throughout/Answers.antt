use Rattle.sync_laws.proofs.InARow.{ready_throughout}
use Rattle.sync_laws.proofs.in_a_row.what_stands_is_ready_throughout.Goals as goal

pub returns : goal.returns
returns g c = λ start position received sent r stands. ready_throughout g.V.Device.behaviour g.V.Device.settled g.met.V.Device.lawful start received sent position r stands
