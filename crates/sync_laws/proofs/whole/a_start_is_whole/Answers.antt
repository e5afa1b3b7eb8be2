use Rattle.std.proofs.Common.{sym, subst}
use Rattle.device_api.specs.Behaviour.{IsLawful}
use Rattle.sync_laws.proofs.FirstWhole.{start_whole}
use Rattle.sync_laws.proofs.whole.a_start_is_whole.Goals as goal

pub returns : goal.returns
returns g c = λ net end runners same short are. start_whole net g.V.Device.settled (subst (λ b. IsLawful b g.V.Device.settled) (sym same) g.met.V.Device.lawful) end runners short are
