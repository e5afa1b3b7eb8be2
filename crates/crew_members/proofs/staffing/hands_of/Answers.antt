use Rattle.std.proofs.Common.{reverse, ap, ◌∙◌}
use Rattle.crew_members.specs.declared.hand.Hand.TheVariants.{Component}
use Rattle.crew_members.proofs.InStaff.{hands_start, hands_more}
use Rattle.crew_members.proofs.staffing.hands_of.Goals as goal

pub components-init : goal.components-init
components-init g c = hands_start Component c.args.components.items _ c.new-hands.result.items (c.reverse.ensures ∙ ap reverse c.from_vec-left.ensures) c.new-hands.ensures.items

pub components-preserved : goal.components-preserved
components-preserved g c = hands_more Component c.args.components.items c.components.left c.pop.new.self c.components.hands.items c.in-Some.component c.components.invariant c.in-Some.ensures.last c.push.new.self.items c.in_ok-push.ensures.items
