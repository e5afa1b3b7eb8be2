use Rattle.std.proofs.Common.{length}
use Rattle.pair_tests.proofs.on_workers.logged.Goals as goal

pub finish-outcome-requires : goal.finish-outcome-requires
finish-outcome-requires g c =
    let ran = c.run_mesh.ensures c.args.devices.items c.args.wiring.now.kinds c.args.wiring.now.links c.args.wiring.now.end c.as_slice.result.now c.in_ok-crew.ensures.built in
    record {
      dismissed = record {
        components = length c.args.devices.items;
        links = c.args.wiring.now.links;
        queues = c.as_slice.result.now;
        parts = ran.parts;
        ends = ran.ends;
        dismissed = ran.dismissed;
      };
    }
