use Rattle.std.proofs.Common.{arith, ◌≤◌}
use Rattle.global_model.specs.Step.{late_of}
use Rattle.global_model.proofs.RunLaws.{late_short}
use Rattle.global_model.proofs.global_run.go_on.Goals as goal

pub returns-clause-short : goal.returns-clause-short
returns-clause-short g c =
    let at_most : c.args.first ≤ late_of (g.V.Device.behaviour.due c.requires.goes_on.component.device) = c.requires.goes_on.soonest.at_most in
    let short = late_short (g.V.Device.behaviour.due c.requires.goes_on.component.device) in
    omega (arith, at_most, short)
