use Rattle.std.proofs.Common.{sym, subst}
use Rattle.device_api.specs.Behaviour.{IsLawful}
use Rattle.sync_laws.proofs.Falls.{send_falls}
use Rattle.sync_laws.proofs.to_come.a_send_lowers_what_is_left.Goals as goal

pub returns : goal.returns
returns g c = λ before after net end positions received sent held runners k ch old new same wired whole is there passes. send_falls net g.V.Device.settled end positions received sent held runners whole wired (subst (λ b. IsLawful b g.V.Device.settled) (sym same) g.met.V.Device.lawful) k ch is _ old new there passes
