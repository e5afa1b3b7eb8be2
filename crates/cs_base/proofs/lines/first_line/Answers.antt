use Rattle.std.proofs.Common.{sym, ◌∙◌}
use Rattle.std.proofs.Math.Nat.{sub-zero}
use Rattle.std.proofs.lemmas.List.{take_rest}
use Rattle.cs_base.proofs.FirstLines.{first_with_end, first_without_end}
use Rattle.cs_base.proofs.lines.first_line.Goals as goal

pub returns-in-Some-clause-lines : goal.returns-in-Some-clause-lines
returns-in-Some-clause-lines c =
    let first = first_with_end c.args.text.now c.in-Some.end (sym c.line_end.ensures ∙ c.in-Some.is) in
    simp (take_rest, sub-zero) first

pub returns-in-None-clause-lines : goal.returns-in-None-clause-lines
returns-in-None-clause-lines c = first_without_end c.args.text.now c.requires (sym c.line_end.ensures ∙ c.in-None.is)
