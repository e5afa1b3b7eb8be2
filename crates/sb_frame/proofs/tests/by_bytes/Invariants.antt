use Rattle.std.proofs.Common.{[], take}
use Rattle.sb_frame.specs.Deframing.{Stands}
use Rattle.sb_frame.proofs.tests.by_bytes.Given as goal

abbrev pub invariant-loop-at : goal.invariant-loop-at
invariant-loop-at l = Stands l.deframer (take l.at l.bytes) []
