use Rattle.std.proofs.Common.{sym, subst}
use Rattle.std.specs.Prelude.{MatchOption}
use Rattle.sync_rule.specs.Next.{IsNext}
use Rattle.sync_rule.specs.Fronts.{IsIdleFront}
use Rattle.sync_rule.proofs.Calm.{calm_is}
use Rattle.sync_rule.proofs.Chosen.{chosen_is}
use Rattle.sync_rule.proofs.runner.Runner.front.Goals as goal

pub returns-clause-front : goal.returns-clause-front
returns-clause-front g c = record {
  next = subst (λ o. MatchOption o (IsIdleFront g.V.Device.behaviour c.args.self.now) (IsNext g.V.Device.behaviour c.args.self.now)) (sym c.chosen.ensures) (chosen_is g.V.Device.behaviour c.args.self.now c.due-due.result.timer c.heard-heard.result.head c.due.result (sym c.due.ensures) c.due-due.ensures.timer c.heard-heard.ensures.head);
  quiet = c.heard-heard.ensures.quiet;
  waits = c.due-due.ensures.waits;
}

pub returns-clause-calm : goal.returns-clause-calm
returns-clause-calm g c = calm_is c.args.self.now.incoming c.args.self.now.outgoing c.args.self.now.end c.calm_until.result c.due-due.result.timer c.heard-heard.result.head c.heard-heard.result.quiet c.calm_until.ensures c.due-due.ensures.timer c.heard-heard.ensures.head c.heard-heard.ensures.quiet
