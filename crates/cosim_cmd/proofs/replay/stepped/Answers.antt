use Rattle.device_set.specs.AnyKind.{any_device, IsSettledDevice}
use Rattle.cosim_cmd.proofs.MeshLogs.{logs_left-before}
use Rattle.cosim_cmd.proofs.replay.stepped.Goals as goal

pub state_text-requires-clause-before : goal.state_text-requires-clause-before
state_text-requires-clause-before c =
    let w = c.args.topology.now.wiring in
    logs_left-before any_device IsSettledDevice c.a_mesh_begins_the_global_run.ensures.logs c.args.devices.items w.links w.end c.in-Ok.mesh c.in-Ok.ensures.of_its_system
