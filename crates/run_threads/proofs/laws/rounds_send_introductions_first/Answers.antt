use Rattle.crew_members.proofs.Fared.{all_fared}
use Rattle.run_threads.specs.Parts.{PartFits, PartDid, PartFailed}
use Rattle.run_threads.proofs.Causes.{introduced}
use Rattle.run_threads.proofs.laws.rounds_send_introductions_first.Goals as goal

pub returns : goal.returns
returns g c = λ old new worked starts links end near far of. introduced g.V.Device.behaviour g.V.Device.settled g.met.V.Device.lawful starts links end near far old new (all_fared (PartDid g.V.Device.behaviour g.V.Device.settled) PartFailed (PartFits g.V.Device.behaviour g.V.Device.settled) old new worked) of
