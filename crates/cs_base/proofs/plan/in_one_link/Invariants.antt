use Rattle.cs_base.proofs.Plans.{AreInOneLink}
use Rattle.cs_base.proofs.plan.in_one_link.Given as goal

abbrev pub invariant-loop-component : goal.invariant-loop-component
invariant-loop-component l = AreInOneLink l.kinds l.links l.component
