use Rattle.std.proofs.Common.{sym, ap, ◌∙◌}
use Rattle.sync_rule.specs.Steps.{introduced_at}
use Rattle.sync_rule.proofs.Steps.{unchanged, heard_at}
use Rattle.sync_rule.proofs.runner.Runner.poll.Goals as goal

pub returns-in-Ok-Nothing : goal.returns-in-Ok-Nothing
returns-in-Ok-Nothing g c = let at = rw c.in-Ok-Nothing.field-0-is at c.in-Ok-Nothing.ensures in (at.changed.0, ap (λ l. record c.args.self.now { incoming = l }) (unchanged c.args.self.now.incoming c.receive.new.self c.args.port at.before at.after at.there at.others at.changed.1))

pub returns-in-Ok-Received : goal.returns-in-Ok-Received
returns-in-Ok-Received g c = let at = rw c.in-Ok-Received.field-0-is at c.in-Ok-Received.ensures in record {
  m = at.changed.m;
  popped = at.changed.popped;
  first = λ none. record { is = at.before; there = at.there; introduction = at.changed.first (sym (ap introduced_at at.there) ∙ none) };
  is = heard_at c.args.self.now c.receive.new.self c.args.port at.before at.after at.changed.m at.there at.others at.changed.is;
}
