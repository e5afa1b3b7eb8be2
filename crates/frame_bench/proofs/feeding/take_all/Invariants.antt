use Rattle.std.proofs.Common.{ℕ, List, length}
use Rattle.sb_message.specs.declared.message.Msg.{Msg}
use Rattle.sb_frame.specs.Deframing.{Stands}
use Rattle.frame_bench.proofs.feeding.take_all.Given as goal

abbrev pub invariant-messages : goal.invariant-messages
invariant-messages l = (stream : List ℕ) (given : List Msg) → Stands l.fn.frames stream given → (after : List Msg) × Stands l.frames stream after

abbrev pub decreases-messages : goal.decreases-messages
decreases-messages l = length l.frames.place.waiting
