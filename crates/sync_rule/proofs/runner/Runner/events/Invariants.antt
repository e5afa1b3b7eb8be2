use Rattle.std.proofs.Common.{◌-◌, ◌≤◌}
use Rattle.sync_rule.specs.Events.{EventsRan}
use Rattle.sync_rule.proofs.runner.Runner.events.Given as goal

abbrev pub invariant-events : goal.invariant-events
invariant-events g l = record {
  ran : EventsRan g.V.Device.behaviour l.fn.self l.ran l.self;
  within : l.ran ≤ l.most;
}

abbrev pub decreases-events : goal.decreases-events
decreases-events g l = l.most - l.ran
