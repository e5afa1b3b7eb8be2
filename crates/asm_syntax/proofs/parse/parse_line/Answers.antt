use Rattle.asm_syntax.proofs.LineRanges.{content_in_range}
use Rattle.asm_syntax.proofs.parse.parse_line.Goals as goal

pub returns-in_ok-content-in-Some-clause-in_range :
    goal.returns-in_ok-content-in-Some-clause-in_range
returns-in_ok-content-in-Some-clause-in_range c = content_in_range _ _ c.in_ok-content-in-Some.ensures

pub returns-in_ok-content-in-None-clause-in_range :
    goal.returns-in_ok-content-in-None-clause-in_range
returns-in_ok-content-in-None-clause-in_range c = content_in_range _ _ c.in_ok-content-in-None.ensures
