use Rattle.std.proofs.Common.{subst}
use Rattle.sync_rule.specs.declared.next.Next.TheVariants.{Sync}
use Rattle.sync_rule.specs.Next.{IsEnabled}
use Rattle.sync_rule.proofs.Ready.{sync_there, in_limits}
use Rattle.sync_rule.proofs.runner.Runner.process.Goals as goal

pub sync-requires-clause-there : goal.sync-requires-clause-there
sync-requires-clause-there g c = sync_there g.V.Device.behaviour g.V.Device.settled c.args.self.now c.requires.ready c.in-Sync.port c.in-Sync.at (subst (IsEnabled g.V.Device.behaviour c.args.self.now) c.in-Sync.is c.requires.enabled)

pub sync-requires-clause-in_run : goal.sync-requires-clause-in_run
sync-requires-clause-in_run g c = in_limits g.V.Device.behaviour g.V.Device.settled c.args.self.now c.requires.ready (Sync c.in-Sync.port c.in-Sync.at) (subst (IsEnabled g.V.Device.behaviour c.args.self.now) c.in-Sync.is c.requires.enabled)
