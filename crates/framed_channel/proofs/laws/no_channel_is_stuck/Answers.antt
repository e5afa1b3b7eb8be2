use Rattle.framed_channel.proofs.Way.{can_go_on}
use Rattle.framed_channel.proofs.laws.no_channel_is_stuck.Goals as goal

pub returns : goal.returns
returns c = can_go_on
