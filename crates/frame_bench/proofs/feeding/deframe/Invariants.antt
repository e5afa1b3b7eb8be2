use Rattle.std.specs.Prelude.{◌-◌}
use Rattle.std.proofs.Common.{◌≤◌, List, length, take}
use Rattle.sb_message.specs.declared.message.Msg.{Msg}
use Rattle.sb_frame.specs.Deframing.{Stands}
use Rattle.frame_bench.proofs.feeding.deframe.Given as goal

abbrev pub invariant-pieces : goal.invariant-pieces
invariant-pieces l = (l.at ≤ length l.stream) × ((given : List Msg) × Stands l.frames (take l.at l.stream) given)

abbrev pub decreases-pieces : goal.decreases-pieces
decreases-pieces l = length l.stream - l.at
