use Rattle.run_laws.proofs.Inboxes.{nothing_missed}
use Rattle.run_laws.proofs.prefix.nothing_to_come_was_missed.Goals as goal

pub returns : goal.returns
returns c = λ position ch received handled inbox rises whole ahead none. nothing_missed position ch received handled inbox rises whole ahead none
