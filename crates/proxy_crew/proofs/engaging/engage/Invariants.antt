use Rattle.std.proofs.Common.{length}
use Rattle.proxy_crew.proofs.Engaged.{AreComing}
use Rattle.proxy_crew.proofs.engaging.engage.Given as goal

abbrev pub invariant-channels : goal.invariant-channels
invariant-channels g l = AreComing l.fn.workers.items l.fn.proxied.items l.left l.made.items

abbrev pub decreases-channels : goal.decreases-channels
decreases-channels g l = length l.left
