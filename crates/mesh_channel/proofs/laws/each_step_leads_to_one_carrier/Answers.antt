use Rattle.mesh_channel.proofs.Determined.{leads_once}
use Rattle.mesh_channel.proofs.laws.each_step_leads_to_one_carrier.Goals as goal

pub returns : goal.returns
returns c = leads_once
