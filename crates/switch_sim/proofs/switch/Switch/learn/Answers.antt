use Rattle.std.proofs.Common.{arith, sym, subst, ◌+◌}
use Rattle.std.proofs.lemmas.Grind.{common_steps}
use Rattle.switch_sim.specs.Table.{SwitchState}
use Rattle.switch_sim.specs.Switch.{IsSettledSwitch}
use Rattle.switch_sim.specs.RoomLaws.{may_learn_is}
use Rattle.switch_sim.specs.SwitchLaws.{learn_settled}
use Rattle.switch_sim.proofs.switch.Switch.learn.Goals as goal

pub returns-clause-state : goal.returns-clause-state
returns-clause-state c = grind (arith, common_steps)

pub returns-clause-settled_then : goal.returns-clause-settled_then
returns-clause-settled_then c = subst (λ (s : SwitchState). IsSettledSwitch s (c.args.t + 1)) (sym (returns-clause-state c)) (learn_settled c.args.self.now c.args.t c.args.from c.args.port c.requires.settled c.requires.port_exists)

pub returns-in_default-clause-room : goal.returns-in_default-clause-room
returns-in_default-clause-room c = may_learn_is c.args.self.now c.args.t c.args.from c.requires.settled.few

pub returns-clause-room : goal.returns-clause-room
returns-clause-room c = may_learn_is c.args.self.now c.args.t c.args.from c.requires.settled.few
