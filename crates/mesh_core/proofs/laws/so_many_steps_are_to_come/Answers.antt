use Rattle.mesh_core.proofs.Falling.{lowers, none_to_come, one_number}
use Rattle.mesh_core.proofs.laws.so_many_steps_are_to_come.Goals as goal

pub returns-clause-one_less : goal.returns-clause-one_less
returns-clause-one_less g c = lowers g.V.Device.behaviour g.V.Device.settled g.met.V.Device.lawful

pub returns-clause-none : goal.returns-clause-none
returns-clause-none g c = none_to_come g.V.Device.behaviour g.V.Device.settled g.met.V.Device.lawful

pub returns-clause-one_number : goal.returns-clause-one_number
returns-clause-one_number g c = one_number g.V.Device.behaviour g.V.Device.settled g.met.V.Device.lawful
