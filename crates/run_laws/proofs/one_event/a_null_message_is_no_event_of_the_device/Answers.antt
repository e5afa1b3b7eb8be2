use Rattle.device_api.specs.Position.{sync_key}
use Rattle.run_laws.proofs.Inboxes.{boxes_stay}
use Rattle.run_laws.proofs.Steps.{sync_step}
use Rattle.run_laws.proofs.one_event.a_null_message_is_no_event_of_the_device.Goals as goal

pub returns-clause-run : goal.returns-clause-run
returns-clause-run g c = λ b ports inputs handled inbox s position end u port boxes next within. sync_step b ports inputs s position end handled inbox boxes u port next within

pub returns-clause-inboxes : goal.returns-clause-inboxes
returns-clause-inboxes g c = λ b ports inputs handled inbox s position end u port boxes next. boxes_stay position ports inputs handled inbox boxes (sync_key u port) next.ahead next.before_messages
