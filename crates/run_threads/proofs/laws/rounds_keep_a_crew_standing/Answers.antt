use Rattle.run_threads.proofs.Crews.{crew_kept}
use Rattle.run_threads.proofs.laws.rounds_keep_a_crew_standing.Goals as goal

pub returns : goal.returns
returns g c = λ old new worked sound starts links end near far of. crew_kept g.V.Device.behaviour g.V.Device.settled g.met.V.Device.lawful links end near far old new worked sound starts of
