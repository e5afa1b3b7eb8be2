use Rattle.rv32_core.specs.StepLaws.{act_at, awaits_at, stepped_agrees}
use Rattle.rv32_core.proofs.state.Core.step.Goals as goal

pub returns-clause-act : goal.returns-clause-act
returns-clause-act c =
    act_at _ _ _ _ (stepped_agrees c.args.self.now c.args.word) c.run-did.ensures.state c.run-did.ensures.act c.act.ensures

pub returns-clause-awaits : goal.returns-clause-awaits
returns-clause-awaits c =
    let agrees = stepped_agrees c.args.self.now c.args.word in
    awaits_at _ _ _ agrees c.run-did.ensures.state (act_at _ _ _ _ agrees c.run-did.ensures.state c.run-did.ensures.act c.act.ensures)
