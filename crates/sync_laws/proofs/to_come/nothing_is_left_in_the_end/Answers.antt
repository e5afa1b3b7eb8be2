use Rattle.std.proofs.Common.{sym, subst}
use Rattle.device_api.specs.Behaviour.{IsLawful}
use Rattle.sync_laws.specs.Whole.{HaveEnded}
use Rattle.sync_laws.proofs.Nothing.{nothing_left}
use Rattle.sync_laws.proofs.to_come.nothing_is_left_in_the_end.Goals as goal

pub returns : goal.returns
returns g c = λ net end positions received sent held runners same wired whole ended none. nothing_left net g.V.Device.settled end positions received sent held runners whole wired (subst (λ b. IsLawful b g.V.Device.settled) (sym same) g.met.V.Device.lawful) (subst (λ b. HaveEnded b runners) (sym same) ended) none
