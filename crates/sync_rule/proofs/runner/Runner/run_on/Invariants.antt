use Rattle.std.proofs.Common.{◌-◌, ◌≤◌}
use Rattle.sync_rule.specs.declared.next.Next.TheVariants.{Tick}
use Rattle.sync_rule.specs.Next.{IsEnabled}
use Rattle.sync_rule.specs.Events.{EventsRan, IsCalm}
use Rattle.sync_rule.proofs.runner.Runner.run_on.Given as goal

abbrev pub invariant-ticks : goal.invariant-ticks
invariant-ticks g l = record {
  ran : EventsRan g.V.Device.behaviour l.fn.self l.ran l.self;
  within : l.ran ≤ l.most;
  enabled : IsEnabled g.V.Device.behaviour l.self (Tick l.at);
  calm : IsCalm l.self.incoming l.self.outgoing l.self.end l.calm;
}

abbrev pub decreases-ticks : goal.decreases-ticks
decreases-ticks g l = l.most - l.ran
