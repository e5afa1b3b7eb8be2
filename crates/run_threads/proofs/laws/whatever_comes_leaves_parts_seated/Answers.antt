use Rattle.run_threads.proofs.Causes.{introduced, cause_at}
use Rattle.run_threads.proofs.Staying.{fared_seated}
use Rattle.run_threads.proofs.laws.whatever_comes_leaves_parts_seated.Goals as goal

pub returns : goal.returns
returns g c = λ old new fared. record {
  seated = fared_seated g.V.Device.behaviour g.V.Device.settled old new fared;
  introduced = λ starts links end near far of. introduced g.V.Device.behaviour g.V.Device.settled g.met.V.Device.lawful starts links end near far old new fared of;
  cause = λ w fault within one starts links end near far of. cause_at g.V.Device.behaviour g.V.Device.settled g.met.V.Device.lawful starts links end near far old new fared of w within fault one;
}
