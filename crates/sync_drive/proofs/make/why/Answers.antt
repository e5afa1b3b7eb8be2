use Rattle.std.proofs.Common.{refl}
use Rattle.sync_drive.specs.Turns.Cause.{it_is_full, it_is_barred, it_ended}
use Rattle.sync_drive.proofs.Causes.{not_ended, has_ended}
use Rattle.sync_drive.proofs.make.why.Goals as goal

pub returns-in-Some : goal.returns-in-Some
returns-in-Some g c = it_is_full c.in-Some.port refl c.in-Some.ensures

pub returns-in-Some-barred : goal.returns-in-Some-barred
returns-in-Some-barred g c = it_is_barred c.in-Some-barred.port refl c.in_default.ensures (not_ended g.V.Device.behaviour c.args.runner.now c.in-Some-barred.port c.in-Some-barred.ensures) c.in-Some-barred.ensures

pub returns-in-None : goal.returns-in-None
returns-in-None g c = it_ended refl (has_ended g.V.Device.behaviour c.args.runner.now c.in_default.ensures c.requires.stopped c.in-None.ensures)
