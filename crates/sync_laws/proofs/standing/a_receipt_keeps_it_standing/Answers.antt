use Rattle.std.proofs.Common.{subst, [], ◌∷◌, ◌++◌}
use Rattle.sb_message.specs.Stream.{IsStream}
use Rattle.sync_laws.proofs.Passed.{receipt_stands}
use Rattle.sync_laws.proofs.standing.a_receipt_keeps_it_standing.Goals as goal

pub returns-clause-runner : goal.returns-clause-runner
returns-clause-runner g c = λ before after start position received sent old new port i stands receipt there kind is_received. receipt_stands g.V.Device.behaviour g.V.Device.settled g.met.V.Device.lawful start position received sent old stands _ new port i receipt there (subst (λ k. IsStream k (received port ++ receipt.m ∷ [])) kind (g.met.R.RxPort.pop_streams before after receipt.m (received port) receipt.popped is_received))

pub returns-clause-channel : goal.returns-clause-channel
returns-clause-channel g c = λ before after received old new port receipt is_received. g.met.R.RxPort.pop_adds before after receipt.m (received port) receipt.popped is_received
