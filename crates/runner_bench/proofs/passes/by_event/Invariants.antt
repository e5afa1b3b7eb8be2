use Rattle.std.proofs.Common.{◌-◌, ◌≤◌}
use Rattle.sync_rule.specs.Events.{IsReadyThroughout}
use Rattle.runner_bench.specs.Ticker.{ticker, IsSettledTicker}
use Rattle.runner_bench.proofs.passes.by_event.Given as goal

abbrev pub invariant-ticks : goal.invariant-ticks
invariant-ticks l = record {
  ready : IsReadyThroughout ticker IsSettledTicker l.runner;
  within : l.ran ≤ l.count;
}

abbrev pub decreases-ticks : goal.decreases-ticks
decreases-ticks l = l.count - l.ran
