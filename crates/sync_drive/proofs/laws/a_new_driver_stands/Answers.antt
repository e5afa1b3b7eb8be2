use Rattle.std.proofs.Common.{[], None}
use Rattle.sync_laws.proofs.Started.{new_stands}
use Rattle.sync_drive.proofs.laws.a_new_driver_stands.Goals as goal

pub returns : goal.returns
returns g c = λ device plans end txs rxs at_start short kinds planned out into. record { position = None; received = λ port. []; sent = λ port. []; runner = new_stands g.V.Device.behaviour g.V.Device.settled g.met.V.Device.lawful device end plans at_start short kinds planned; out = out; into = into }
