use Rattle.std.proofs.Common.{subst}
use Rattle.sync_laws.specs.Whole.{CanProcess, HaveEnded}
use Rattle.sync_laws.proofs.Stuck.{not_stuck}
use Rattle.sync_laws.proofs.whole.some_component_can_go_on.Goals as goal

pub returns : goal.returns
returns g c = λ net end positions received sent held runners same wired whole still unended. subst (λ b. (HaveEnded b runners → ⊥) → CanProcess b runners) same (not_stuck net g.V.Device.settled end positions received sent held runners whole wired still) unended
