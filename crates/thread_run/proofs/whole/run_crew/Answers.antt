use Rattle.std.proofs.Common.{length}
use Rattle.thread_run.proofs.Spending.{is_spent}
use Rattle.thread_run.proofs.whole.run_crew.Goals as goal

pub finish-outcome-requires : goal.finish-outcome-requires
finish-outcome-requires g c =
    let wiring = c.args.wiring.now in
    let run = c.run_mesh-ended.ensures c.args.devices.items wiring.kinds wiring.links wiring.end c.args.queues.now c.in_ok-crew.ensures.built in
    record { dismissed = record { components = length c.args.devices.items; links = wiring.links; queues = c.args.queues.now; parts = run.parts; ends = run.ends; dismissed = run.dismissed } }

pub returns-clause-spent : goal.returns-clause-spent
returns-clause-spent g c =
    let starts = c.args.devices.items in
    let wiring = c.args.wiring.now in
    let queues = c.args.queues.now in
    let run = c.run_mesh-ended.ensures starts wiring.kinds wiring.links wiring.end queues c.in_ok-crew.ensures.built in
    let finished = c.finish-outcome.ensures (length starts) wiring.links queues run.parts run.ends run.dismissed in
    is_spent g.V.Device.behaviour g.V.Device.settled _ _ starts wiring.kinds wiring.links wiring.end queues _ _ run _ _ _ _ _ finished c.in_ok-crew.ensures.built.parts_are.wired c.an_ended_crew_leaves_the_global_run.ensures
