use Rattle.run_laws.proofs.Timestamps.{script_rises, script_upto_rises, rises-filter}
use Rattle.run_laws.proofs.rising.timestamps_never_fall.Goals as goal

pub returns-clause-whole : goal.returns-clause-whole
returns-clause-whole c = λ kind ch sends end. (script_rises kind ch sends end).rises

pub returns-clause-so_far : goal.returns-clause-so_far
returns-clause-so_far c = λ kind ch sends position end. (script_upto_rises kind ch sends position end).rises

pub returns-clause-events : goal.returns-clause-events
returns-clause-events c = λ messages rises. rises-filter _ 0 messages rises
