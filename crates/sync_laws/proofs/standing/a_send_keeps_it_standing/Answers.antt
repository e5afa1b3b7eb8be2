use Rattle.std.proofs.Common.{sym, subst, [], ◌∷◌, ◌++◌}
use Rattle.sb_message.specs.Stream.{IsStream}
use Rattle.sync_laws.proofs.Passed.{next_streams, send_stands}
use Rattle.sync_laws.proofs.standing.a_send_keeps_it_standing.Goals as goal

pub returns-clause-runner : goal.returns-clause-runner
returns-clause-runner g c = λ before after start position received sent old new port stands passes. send_stands g.V.Device.behaviour g.V.Device.settled g.met.V.Device.lawful start position received sent old stands _ new port passes

pub returns-clause-channel : goal.returns-clause-channel
returns-clause-channel g c = λ before after start position received sent old new port o stands passes is kind is_sent. g.met.T.TxPort.push_adds before after passes.m (sent port) passes.pushed is_sent (subst (λ k. IsStream k (sent port ++ passes.m ∷ [])) (sym kind) (next_streams g.V.Device.behaviour g.V.Device.settled g.met.V.Device.lawful start position received sent old stands port o passes.m passes.more is passes.waited))
