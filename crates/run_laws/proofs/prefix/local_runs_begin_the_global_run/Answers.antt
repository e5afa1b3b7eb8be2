use Rattle.run_laws.proofs.Begun.{logs_begin, made_begins}
use Rattle.run_laws.proofs.prefix.local_runs_begin_the_global_run.Goals as goal

pub returns-clause-logs : goal.returns-clause-logs
returns-clause-logs g c = λ net position made received end wired only upto. logs_begin net position made received end wired only upto

pub returns-clause-transcripts : goal.returns-clause-transcripts
returns-clause-transcripts g c = λ net position made received end wired only upto. made_begins net position made received end wired only upto
