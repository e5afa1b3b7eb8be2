use Rattle.switch_sim.proofs.Alikes.{take_alike}
use Rattle.switch_sim.proofs.laws.alike_switches_react_alike.Goals as goal

pub returns : goal.returns
returns c = take_alike
