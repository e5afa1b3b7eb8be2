use Rattle.std.proofs.Common.{◌∙◌, ap, arith}
use Rattle.device_api.specs.World.{logs_of}
use Rattle.device_api.specs.GlobalCounts.{counts_of}
use Rattle.global_model.specs.Step.{network}
use Rattle.global_model.specs.Runs.{system_of, world_of}
use Rattle.global_model.proofs.RunLaws.{at_own_time}
use Rattle.global_model.proofs.StartAndEnd.{if_ok_weaker}
use Rattle.global_model.proofs.global_run.simulate.Goals as goal

pub advance-requires-clause-may_run : goal.advance-requires-clause-may_run
advance-requires-clause-may_run g c = (system_of c.args.wiring.now c.args.devices.items, at_own_time c.in_ok-run.ensures, omega arith)

pub into_outcome-requires : goal.into_outcome-requires
into_outcome-requires g c = (system_of c.args.wiring.now c.args.devices.items, at_own_time (c.in_ok-advance.ensures (system_of c.args.wiring.now c.args.devices.items) (at_own_time c.in_ok-run.ensures) (omega arith)))

pub returns : goal.returns
returns g c =
    let there = c.in_ok-advance.ensures (system_of c.args.wiring.now c.args.devices.items) (at_own_time c.in_ok-run.ensures) (omega arith) in
    record {
      logs = if_ok_weaker c.into_outcome.result _ _ (λ outcome are. are (system_of c.args.wiring.now c.args.devices.items) (at_own_time there) ∙ ap (λ t. logs_of (world_of g.V.Device.behaviour (system_of c.args.wiring.now c.args.devices.items) t)) there.time_is) c.into_outcome.ensures.logs;
      counts = if_ok_weaker c.into_outcome.result _ _ (λ outcome are. are (system_of c.args.wiring.now c.args.devices.items) (at_own_time there) ∙ ap (counts_of (network g.V.Device.behaviour c.args.devices.items c.args.wiring.now.links)) there.time_is) c.into_outcome.ensures.counts;
    }
