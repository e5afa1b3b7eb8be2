use Rattle.std.proofs.Common.{sym, ap, ◌∙◌}
use Rattle.sync_rule.specs.Ports.{Out}
use Rattle.sync_rule.proofs.Steps.{passed}
use Rattle.sync_rule.proofs.outgoing.Outgoing.pass_on.Goals as goal

pub returns-in-Ok : goal.returns-in-Ok
returns-in-Ok g c = record {
  m = c.in-Some.message;
  more = c.pop.new.self.items;
  waited = ap (λ (o : Out). o.outbox) (sym c.self.view_is) ∙ c.in-Some.ensures.first;
  pushed = c.in-Ok.ensures;
  is = passed _ c.args.self.now c.in-Some.message c.pop.new.self.items c.self.view_is c.in-Some.ensures.first;
}
