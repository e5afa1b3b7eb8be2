use Rattle.run_laws.proofs.Wholes.{run_whole, script_whole}
use Rattle.run_laws.proofs.whole.with_nothing_left_it_is_whole.Goals as goal

pub returns-clause-run : goal.returns-clause-run
returns-clause-run g c = λ b ports inputs s position end handled inbox boxes left. run_whole b ports inputs handled inbox s position end boxes left

pub returns-clause-transcript : goal.returns-clause-transcript
returns-clause-transcript g c = λ b ports inputs s position end kind ch only left. script_whole b only ports inputs s position end kind ch left
