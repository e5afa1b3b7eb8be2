use Rattle.run_laws.proofs.Inboxes.{boxes_receive}
use Rattle.run_laws.proofs.Steps.{receive_step}
use Rattle.run_laws.proofs.one_event.a_message_received_waits_in_its_inbox.Goals as goal

pub returns-clause-run : goal.returns-clause-run
returns-clause-run g c = λ b ports inputs handled inbox s position end port m boxes comes. receive_step b ports inputs handled inbox s position port m boxes comes end

pub returns-clause-inboxes : goal.returns-clause-inboxes
returns-clause-inboxes g c = λ ports inputs handled inbox position port m boxes comes. boxes_receive position ports inputs handled inbox boxes port m comes
