use Rattle.std.proofs.Common.{◌+◌, refl, sym, subst}
use Rattle.cs_base.specs.declared.port_kind.PortKind.TheVariants.{Eth}
use Rattle.switch_sim.specs.SwitchLaws.{at_port, settled_later, learn_settled}
use Rattle.switch_sim.specs.Table.{SwitchState}
use Rattle.switch_sim.specs.Switch.{source, IsSettledSwitch}
use Rattle.switch_sim.proofs.tests.takes.Goals as goal

pub take-requires-clause-settled_then : goal.take-requires-clause-settled_then
take-requires-clause-settled_then c = settled_later c.args.switch.now c.args.now (c.args.case.now.at + 1) c.requires.settled c.requires.later

pub take-requires-clause-receivable : goal.take-requires-clause-receivable
take-requires-clause-receivable c = record { kind = Eth; at_port = at_port c.args.switch.now.ports c.args.case.now.port c.requires.port; fits = refl; event = refl }

pub returns-clause-settled : goal.returns-clause-settled
returns-clause-settled c =
    let before : IsSettledSwitch c.args.switch.now (c.args.case.now.at + 1) = settled_later c.args.switch.now c.args.now (c.args.case.now.at + 1) c.requires.settled c.requires.later in
    subst (λ (s : SwitchState). IsSettledSwitch s (c.args.case.now.at + 1)) (sym c.in_ok-take.ensures.state_is) (learn_settled c.args.switch.now c.args.case.now.at (source c.in_ok-message.message) c.args.case.now.port before c.requires.port)
