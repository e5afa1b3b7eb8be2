use Rattle.device_api.proofs.Keeping.{reached_kept}
use Rattle.device_api.proofs.laws.devices_keep_their_ports.Goals as goal

pub returns : goal.returns
returns g c = λ start s starts reached. reached_kept g.V.Device.behaviour g.V.Device.settled start g.met.V.Device.lawful starts s reached
