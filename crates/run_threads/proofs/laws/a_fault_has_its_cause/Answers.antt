use Rattle.run_threads.proofs.Causes.{is_cause}
use Rattle.run_threads.proofs.laws.a_fault_has_its_cause.Goals as goal

pub returns : goal.returns
returns g c = λ old new worked fault first starts links end near far of. is_cause g.V.Device.behaviour g.V.Device.settled g.met.V.Device.lawful starts links end near far old new worked of fault first
