use Rattle.std.proofs.Common.{arith}
use Rattle.sync_rule.proofs.Ran.{ready_now}
use Rattle.runner_bench.specs.Ticker.{ticker, IsSettledTicker}
use Rattle.runner_bench.proofs.Standing.{after_event}
use Rattle.runner_bench.proofs.passes.by_event.Goals as goal

pub event-requires : goal.event-requires
event-requires c = record { ready = ready_now ticker IsSettledTicker c.ticks.runner c.ticks.invariant.ready }

pub ticks-preserved : goal.ticks-preserved
ticks-preserved c = record {
  ready = after_event c.ticks.invariant.ready c.in_ok-event.ensures c.if-not-branch.false;
  within = omega (arith, c.ticks-test.true, c.from.ensures);
}
