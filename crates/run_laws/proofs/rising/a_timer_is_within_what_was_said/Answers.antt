use Rattle.run_laws.proofs.Timestamps.{timer_within}
use Rattle.run_laws.proofs.rising.a_timer_is_within_what_was_said.Goals as goal

pub returns : goal.returns
returns c = λ kind ch sends position end most. timer_within kind ch sends position end most
