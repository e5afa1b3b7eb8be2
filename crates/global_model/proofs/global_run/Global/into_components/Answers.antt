use Rattle.global_model.proofs.StartAndEnd.{components_there}
use Rattle.global_model.proofs.global_run.Global.into_components.Goals as goal

pub returns : goal.returns
returns g c = λ system at. components_there at.stands
