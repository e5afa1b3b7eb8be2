use Rattle.framed_channel.proofs.Counting.{counted}
use Rattle.framed_channel.proofs.laws.so_many_steps_are_left.Goals as goal

pub returns : goal.returns
returns c = counted
