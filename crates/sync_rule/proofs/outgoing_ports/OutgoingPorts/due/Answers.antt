use Rattle.std.proofs.Common.{◌∙◌, subst, length}
use Rattle.sync_rule.specs.Times.{timer_of}
use Rattle.sync_rule.specs.ManyPorts.{WaitBelow}
use Rattle.sync_rule.specs.Soonest.{Soonest}
use Rattle.sync_rule.proofs.outgoing_ports.OutgoingPorts.due.Goals as goal

pub returns-clause-timer : goal.returns-clause-timer
returns-clause-timer c = subst (λ l. Soonest timer_of l (length l) c.due_at.result.timer) (c.as_slice.ensures.value ∙ c.self.view_is) c.due_at.ensures.timer

pub returns-clause-waits : goal.returns-clause-waits
returns-clause-waits c = subst (λ l. WaitBelow l (length l) c.due_at.result.waits) (c.as_slice.ensures.value ∙ c.self.view_is) c.due_at.ensures.waits
