use Rattle.std.proofs.Common.{◌≡◌, ◌++◌, length, All}
use Rattle.eth_proto.specs.Frame.{IsFrame}
use Rattle.nic_8254x.proofs.frames.Frames.into_items.Given as goal

abbrev pub invariant-frames : goal.invariant-frames
invariant-frames l = (l.items ++ l.queue.items ≡ l.fn.self) × All IsFrame l.items

abbrev pub decreases-frames : goal.decreases-frames
decreases-frames l = length l.queue.items
