use Rattle.mesh_core.proofs.Begun.{logs_begin, lists_begin}
use Rattle.mesh_core.proofs.laws.a_mesh_begins_the_global_run.Goals as goal

pub returns-clause-logs : goal.returns-clause-logs
returns-clause-logs g c = logs_begin g.V.Device.behaviour g.V.Device.settled g.met.V.Device.lawful

pub returns-clause-lists : goal.returns-clause-lists
returns-clause-lists g c = lists_begin g.V.Device.behaviour g.V.Device.settled g.met.V.Device.lawful
