use Rattle.framed_channel.proofs.Way.{one_way}
use Rattle.framed_channel.proofs.laws.one_list_is_under_way.Goals as goal

pub returns : goal.returns
returns c = one_way
