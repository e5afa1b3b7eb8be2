use Rattle.run_steps.proofs.Spelling.{one_step_a_line}
use Rattle.run_steps.proofs.laws.a_line_is_one_step.Goals as goal

pub returns : goal.returns
returns c = one_step_a_line
