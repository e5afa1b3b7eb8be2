use Rattle.std.proofs.Common.{length}
use Rattle.crew_members.specs.Staffing.{as_hands}
use Rattle.crew_members.proofs.InStaff.{AreTurned}
use Rattle.crew_members.proofs.staffing.staffed.Given as goal

abbrev pub invariant-workers : goal.invariant-workers
invariant-workers g l = AreTurned as_hands l.fn.workers.items l.number l.left l.made.items

abbrev pub decreases-workers : goal.decreases-workers
decreases-workers g l = length l.left
