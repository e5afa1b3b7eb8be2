use Rattle.std.proofs.Common.{sym, subst, [], ◌∷◌, ◌++◌}
use Rattle.sb_message.specs.Stream.{IsStream}
use Rattle.sync_laws.proofs.Passed.{next_streams}
use Rattle.sync_laws.proofs.standing.what_stands_may_send.Goals as goal

pub returns : goal.returns
returns g c = λ tx start position received sent r port o stands is kind is_sent m more first. record { sent = sent port; is_sent = is_sent; streams = subst (λ k. IsStream k (sent port ++ m ∷ [])) (sym kind) (next_streams g.V.Device.behaviour g.V.Device.settled g.met.V.Device.lawful start position received sent r stands port o m more is first) }
