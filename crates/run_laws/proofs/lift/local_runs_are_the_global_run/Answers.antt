use Rattle.run_laws.proofs.Lifted.{runs_are, transcripts_are}
use Rattle.run_laws.proofs.lift.local_runs_are_the_global_run.Goals as goal

pub returns-clause-runs : goal.returns-clause-runs
returns-clause-runs g c = λ net sent received end wired only local. runs_are net sent received end wired only local

pub returns-clause-transcripts : goal.returns-clause-transcripts
returns-clause-transcripts g c = λ net sent received end wired only local. transcripts_are net sent received end wired only local
