use Rattle.sync_laws.proofs.Events.{event_stands}
use Rattle.sync_laws.proofs.standing.an_event_keeps_it_standing.Goals as goal

pub returns : goal.returns
returns g c = λ start position received sent old new stands event. event_stands g.V.Device.behaviour g.V.Device.settled g.met.V.Device.lawful start position received sent old stands new event.next event.enabled event.after
