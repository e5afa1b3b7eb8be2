use Rattle.device_api.specs.Position.{tick_key}
use Rattle.run_laws.proofs.Inboxes.{boxes_stay}
use Rattle.run_laws.proofs.Steps.{tick_step}
use Rattle.run_laws.proofs.one_event.a_tick_is_one_event.Goals as goal

pub returns-clause-run : goal.returns-clause-run
returns-clause-run g c = λ b ports inputs handled inbox s position end t boxes next within. tick_step b ports inputs s position end handled inbox boxes t next within

pub returns-clause-inboxes : goal.returns-clause-inboxes
returns-clause-inboxes g c = λ b ports inputs handled inbox s position end t boxes next. boxes_stay position ports inputs handled inbox boxes (tick_key t) next.ahead next.before_messages
