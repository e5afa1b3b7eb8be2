use Rattle.thread_run.proofs.Reserving.{AreReserved}
use Rattle.thread_run.proofs.closing.Rooms.reserve.Given as goal

abbrev pub invariant-loop-link : goal.invariant-loop-link
invariant-loop-link l = AreReserved l.links l.link-index l.rooms
