use Rattle.std.proofs.Common.{◌≡◌}
use Rattle.switch_sim.specs.Switch.{IsSettledSwitch}
use Rattle.switch_sim.proofs.tests.a_full_table_keeps_its_live_entries.Given as goal

abbrev pub invariant-loop-number : goal.invariant-loop-number
invariant-loop-number g l = IsSettledSwitch l.switch l.number-counter × (l.switch.ports ≡ 2)
