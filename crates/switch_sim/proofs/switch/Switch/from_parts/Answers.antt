use Rattle.std.proofs.Common.{◌≡◌, ◌≤◌, List, sym, subst, rules}
use Rattle.switch_sim.specs.declared.entry.Entry.{Entry}
use Rattle.switch_sim.specs.Table.{started}
use Rattle.switch_sim.specs.Parts.{resumed, StandsAt}
use Rattle.switch_sim.specs.Switch.{IsSettledSwitch}
use Rattle.switch_sim.proofs.Standing.{stands_settled}
use Rattle.switch_sim.proofs.switch.Switch.from_parts.Goals as goal

pub returns-clause-settled : goal.returns-clause-settled
returns-clause-settled c x le =
    let stands : StandsAt c.args.at (resumed c.args.config.now c.args.parts) = search rules in
    let entries : c.in_ok-with_entries.field-0 ≡ c.args.parts.entries = search rules in
    let few_ports : c.args.config.now.ports ≤ 32 = search rules in
    subst (λ (es : List Entry). IsSettledSwitch (record (started c.args.config.now) { entries = es }) x) (sym entries) (stands_settled c.args.at (resumed c.args.config.now c.args.parts) few_ports stands x le)
