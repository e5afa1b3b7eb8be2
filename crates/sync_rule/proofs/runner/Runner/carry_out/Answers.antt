use Rattle.std.proofs.Common.{sym, ap, subst, ◌∙◌}
use Rattle.sync_rule.specs.declared.runner.Runner.{Runner}
use Rattle.sync_rule.specs.ManyPorts.{ArePlanned}
use Rattle.sync_rule.proofs.Calm.{nothing_done}
use Rattle.sync_rule.proofs.runner.Runner.carry_out.Goals as goal

pub post_all-requires-clause-planned : goal.post_all-requires-clause-planned
post_all-requires-clause-planned g c = subst ArePlanned (ap (λ (r : Runner _). r.outgoing) (sym c.self.view_is)) c.requires.planned

pub returns-then-is_empty-2 : goal.returns-then-is_empty-2
returns-then-is_empty-2 g c = nothing_done c.args.self.now c.args.at (ap (λ (r : Runner _). r.done.lines) (sym c.self.view_is) ∙ c.is_empty.ensures.0 c.if-is_empty.true) (ap (λ (r : Runner _). r.done.sends) (sym c.self.view_is) ∙ c.is_empty-then-is_empty.ensures.0 c.if-is_empty-2.true)
