use Rattle.run_threads.proofs.Handed.{AreSharing}
use Rattle.run_threads.proofs.sharing.share_out.Given as goal

abbrev pub invariant-loop-link : goal.invariant-loop-link
invariant-loop-link l = AreSharing l.queues l.links l.link-index l.shares l.left
