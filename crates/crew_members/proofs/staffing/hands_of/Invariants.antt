use Rattle.std.proofs.Common.{length}
use Rattle.crew_members.specs.declared.hand.Hand.TheVariants.{Component}
use Rattle.crew_members.proofs.InStaff.{AreTurned}
use Rattle.crew_members.proofs.staffing.hands_of.Given as goal

abbrev pub invariant-components : goal.invariant-components
invariant-components g l = AreTurned Component l.fn.components.items (length l.hands.items) l.left l.hands.items

abbrev pub decreases-components : goal.decreases-components
decreases-components g l = length l.left
