use Rattle.mesh_core.proofs.Begun.{logs_are, lists_are}
use Rattle.mesh_core.proofs.Outcomes.{leaves_logs, leaves_counts}
use Rattle.mesh_core.proofs.laws.an_ended_mesh_is_the_global_run.Goals as goal

pub returns-clause-logs : goal.returns-clause-logs
returns-clause-logs g c = logs_are g.V.Device.behaviour g.V.Device.settled g.met.V.Device.lawful

pub returns-clause-lists : goal.returns-clause-lists
returns-clause-lists g c = lists_are g.V.Device.behaviour g.V.Device.settled g.met.V.Device.lawful

pub returns-clause-leaves_logs : goal.returns-clause-leaves_logs
returns-clause-leaves_logs g c = leaves_logs g.V.Device.behaviour g.V.Device.settled g.met.V.Device.lawful

pub returns-clause-leaves_counts : goal.returns-clause-leaves_counts
returns-clause-leaves_counts g c = leaves_counts g.V.Device.behaviour g.V.Device.settled g.met.V.Device.lawful
