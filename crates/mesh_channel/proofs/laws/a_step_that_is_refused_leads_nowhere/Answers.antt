use Rattle.mesh_channel.proofs.Going.{refuses_rightly}
use Rattle.mesh_channel.proofs.laws.a_step_that_is_refused_leads_nowhere.Goals as goal

pub returns : goal.returns
returns c = refuses_rightly
