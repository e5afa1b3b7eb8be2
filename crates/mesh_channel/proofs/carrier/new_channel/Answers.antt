use Rattle.mesh_channel.proofs.Unused.{is_unused}
use Rattle.mesh_channel.proofs.carrier.new_channel.Goals as goal

pub returns : goal.returns
returns c = is_unused c.args.kind c.args.slots c.in_ok-channel.channel c.in_ok-channel.ensures
