use Rattle.run_threads.proofs.Final.{leaves}
use Rattle.run_threads.proofs.laws.an_ended_crew_leaves_the_global_run.Goals as goal

pub returns : goal.returns
returns g c = λ starts links end near far workers of ended logs counts senders receivers left delivered. leaves g.V.Device.behaviour g.V.Device.settled g.met.V.Device.lawful starts links end near far workers of logs counts senders receivers left delivered ended
