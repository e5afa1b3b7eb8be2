use Rattle.std.proofs.Common.{refl, ap, ◌∙◌, ◌++◌}
use Rattle.sync_rule.specs.Ports.{waiting_of}
use Rattle.sync_rule.proofs.Intros.{heard_first, heard_is}
use Rattle.sync_rule.proofs.incoming.Incoming.receive.Goals as goal

pub returns : goal.returns
returns g c = record {
  m = c.in-Some.message;
  popped = c.in-Some.ensures;
  first = heard_first _ c.args.self.now c.in-Some.message c.self.view_is c.is_wrong.result c.if-is_wrong.false c.is_wrong.ensures;
  is = heard_is _ c.args.self.now c.in-Some.message c.keep.new.inbox.items c.self.view_is (c.keep.ensures ∙ ap (λ l. l ++ waiting_of c.in-Some.message) c.in_ok-reserve.ensures.items) _ refl;
}
