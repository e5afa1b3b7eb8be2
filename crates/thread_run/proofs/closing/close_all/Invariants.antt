use Rattle.std.proofs.Common.{length, reverse}
use Rattle.std.specs.Prelude.{vec_capacity}
use Rattle.thread_run.proofs.Closings.{AreClosing}
use Rattle.thread_run.proofs.closing.close_all.Given as goal

abbrev pub invariant-queues : goal.invariant-queues
invariant-queues l = AreClosing l.fn.producers.items l.fn.consumers.items (reverse l.queues) (reverse l.producers) (reverse l.consumers) (reverse l.rooms) (vec_capacity l.rests) l.rests.items

abbrev pub decreases-queues : goal.decreases-queues
decreases-queues l = length l.queues
