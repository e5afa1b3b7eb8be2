use Rattle.run_threads.proofs.SeatedCrew.{crew_seated}
use Rattle.run_threads.proofs.laws.a_crew_is_seated.Goals as goal

pub returns : goal.returns
returns g c = λ starts links end near far workers of. crew_seated g.V.Device.behaviour g.V.Device.settled starts links end near far workers of
