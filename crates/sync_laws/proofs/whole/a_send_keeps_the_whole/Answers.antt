use Rattle.std.proofs.Common.{sym, subst}
use Rattle.device_api.specs.Behaviour.{IsLawful}
use Rattle.sync_laws.proofs.Steps.{send_whole}
use Rattle.sync_laws.proofs.whole.a_send_keeps_the_whole.Goals as goal

pub returns : goal.returns
returns g c = λ before after net end positions received sent held runners at old new same whole there passes. send_whole net g.V.Device.settled end positions received sent held runners whole (subst (λ b. IsLawful b g.V.Device.settled) (sym same) g.met.V.Device.lawful) _ at old new there passes
