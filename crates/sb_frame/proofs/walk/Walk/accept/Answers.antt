use Rattle.std.proofs.Common.{sym, ◌∙◌}
use Rattle.sb_frame.specs.Faults.IsBadMessage.{against_rule}
use Rattle.sb_frame.proofs.walk.Walk.accept.Goals as goal

pub returns-in-Some-clause-err : goal.returns-in-Some-clause-err
returns-in-Some-clause-err c = λ _. against_rule c.in_ok-message.message c.in-Some.bad c.in_ok-message.ensures.ok (sym c.rule_fault.ensures ∙ c.in-Some.is)
