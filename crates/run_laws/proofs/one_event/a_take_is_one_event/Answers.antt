use Rattle.run_laws.proofs.Inboxes.{boxes_take}
use Rattle.run_laws.proofs.Steps.{take_step}
use Rattle.run_laws.proofs.one_event.a_take_is_one_event.Goals as goal

pub returns-clause-run : goal.returns-clause-run
returns-clause-run g c = λ b ports inputs handled inbox s position end port m more boxes next within. take_step b ports inputs s position end handled inbox boxes port m more next within

pub returns-clause-inboxes : goal.returns-clause-inboxes
returns-clause-inboxes g c = λ b ports inputs handled inbox s position end port m more boxes next. boxes_take b position ports inputs handled inbox boxes _ port m more next
