use Rattle.run_laws.proofs.Returned.{is_one}
use Rattle.run_laws.proofs.converse.the_global_run_is_one.Goals as goal

pub returns : goal.returns
returns g c = λ net end wired only. is_one net end wired only
