use Rattle.framed_channel.proofs.Way.{ran_well}
use Rattle.framed_channel.proofs.laws.nothing_is_lost.Goals as goal

pub returns : goal.returns
returns c = ran_well
