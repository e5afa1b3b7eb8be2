use Rattle.std.proofs.Common.{length}
use Rattle.proxy_crew.proofs.Gone.{AreLeaving}
use Rattle.proxy_crew.proofs.dismissing.dismiss.Given as goal

abbrev pub invariant-channels : goal.invariant-channels
invariant-channels g l = AreLeaving l.initial.workers l.initial.routes l.workers l.routes l.left

abbrev pub decreases-channels : goal.decreases-channels
decreases-channels g l = length l.routes
