use Rattle.std.proofs.Common.{decimal}
use Rattle.run_steps.proofs.Spelling.{numbered_behind}
use Rattle.run_steps.proofs.read.numbered.Goals as goal

pub returns-in-Some : goal.returns-in-Some
returns-in-Some c =
    numbered_behind c.args.line.now c.args.word.now c.in-Some.digits.now c.short_number.result c.in-Some.ensures c.short_number.ensures

pub returns-in-None : goal.returns-in-None
returns-in-None c = λ n small same. c.in-None.ensures (decimal n) same
