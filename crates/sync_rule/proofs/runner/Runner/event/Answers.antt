use Rattle.std.proofs.Common.{None, Some, refl, sym, ◌∙◌}
use Rattle.sync_rule.proofs.Looked.{front_enabled}
use Rattle.sync_rule.proofs.runner.Runner.event.Goals as goal

pub returns-in_default : goal.returns-in_default
returns-in_default g c = record { none = front_enabled g.V.Device.behaviour c.args.self.now c.front.result c.front.ensures.front None (sym c.in_default.is ∙ c.enabled.ensures); unchanged = refl }

pub process-requires-clause-enabled : goal.process-requires-clause-enabled
process-requires-clause-enabled g c = front_enabled g.V.Device.behaviour c.args.self.now c.front.result c.front.ensures.front (Some c.in-Some.next) (sym c.in-Some.is ∙ c.enabled.ensures)

pub returns : goal.returns
returns g c = record { next = c.in-Some.next; enabled = front_enabled g.V.Device.behaviour c.args.self.now c.front.result c.front.ensures.front (Some c.in-Some.next) (sym c.in-Some.is ∙ c.enabled.ensures); after = c.in_ok-process.ensures }
