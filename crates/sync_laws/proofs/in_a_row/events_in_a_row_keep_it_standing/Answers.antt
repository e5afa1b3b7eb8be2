use Rattle.sync_laws.proofs.InARow.{events_stand}
use Rattle.sync_laws.proofs.in_a_row.events_in_a_row_keep_it_standing.Goals as goal

pub returns : goal.returns
returns g c = λ start position received sent old new n stands ran. events_stand g.V.Device.behaviour g.V.Device.settled g.met.V.Device.lawful start received sent old new n (record { position = position; stands = stands }) ran
