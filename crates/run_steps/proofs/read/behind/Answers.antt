use Rattle.run_steps.proofs.Spelling.{behind_word}
use Rattle.run_steps.proofs.read.behind.Goals as goal

pub returns : goal.returns
returns c = behind_word c.args.line.now c.args.word.now c.strip_prefix.result c.strip_prefix.ensures.cases
