use Rattle.std.proofs.Common.{◌≡◌, take}
use Rattle.nic_8254x.proofs.frames.Frames.from_slice.Given as goal

abbrev pub invariant-frames : goal.invariant-frames
invariant-frames l = l.queue.items ≡ take l.frame-index l.frames
