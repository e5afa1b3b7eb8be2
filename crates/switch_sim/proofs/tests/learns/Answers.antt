use Rattle.std.proofs.Common.{◌+◌, ap, ◌∙◌}
use Rattle.switch_sim.specs.Table.{SwitchState}
use Rattle.switch_sim.specs.SwitchLaws.{learn_ports, settled_later}
use Rattle.switch_sim.proofs.tests.learns.Goals as goal

pub learn-requires-clause-settled : goal.learn-requires-clause-settled
learn-requires-clause-settled c = settled_later c.args.switch.now c.args.now (c.args.t + 1) c.requires.settled c.requires.later

pub returns-clause-ports : goal.returns-clause-ports
returns-clause-ports c = ap (λ (s : SwitchState). s.ports) c.learn.ensures.state ∙ learn_ports c.args.switch.now c.args.t c.station.result c.args.port ∙ c.requires.ports
