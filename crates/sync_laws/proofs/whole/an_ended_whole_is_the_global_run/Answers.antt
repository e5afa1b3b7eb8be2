use Rattle.std.proofs.Common.{sym, subst}
use Rattle.device_api.specs.Behaviour.{IsLawful}
use Rattle.sync_laws.specs.Whole.{HaveEnded}
use Rattle.sync_laws.proofs.Ahead.{only_events}
use Rattle.sync_laws.proofs.Begins.{ends}
use Rattle.sync_laws.proofs.whole.an_ended_whole_is_the_global_run.Goals as goal

pub returns : goal.returns
returns g c = λ net end positions received sent held runners same wired whole ended. ends net g.V.Device.settled end positions received sent held runners whole wired (only_events net.behaviour g.V.Device.settled (subst (λ b. IsLawful b g.V.Device.settled) (sym same) g.met.V.Device.lawful)) (subst (λ b. HaveEnded b runners) (sym same) ended)
