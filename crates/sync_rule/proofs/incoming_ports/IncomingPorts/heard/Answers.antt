use Rattle.std.proofs.Common.{◌∙◌, subst, length}
use Rattle.sync_rule.specs.Times.{head_of, quiet_of}
use Rattle.sync_rule.specs.Soonest.{Soonest}
use Rattle.sync_rule.proofs.incoming_ports.IncomingPorts.heard.Goals as goal

pub returns-clause-head : goal.returns-clause-head
returns-clause-head c = subst (λ l. Soonest head_of l (length l) c.heard_at.result.head) (c.as_slice.ensures.value ∙ c.self.view_is) c.heard_at.ensures.head

pub returns-clause-quiet : goal.returns-clause-quiet
returns-clause-quiet c = subst (λ l. Soonest quiet_of l (length l) c.heard_at.result.quiet) (c.as_slice.ensures.value ∙ c.self.view_is) c.heard_at.ensures.quiet
