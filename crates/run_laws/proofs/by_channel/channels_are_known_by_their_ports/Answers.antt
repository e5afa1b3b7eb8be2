use Rattle.run_laws.proofs.Numbered.{sender_is, receiver_is}
use Rattle.run_laws.proofs.by_channel.channels_are_known_by_their_ports.Goals as goal

pub returns-clause-sender : goal.returns-clause-sender
returns-clause-sender g c = λ net end lists k ch wired is. sender_is net wired lists k ch is

pub returns-clause-receiver : goal.returns-clause-receiver
returns-clause-receiver g c = λ net end lists k ch wired is. receiver_is net wired lists k ch is
