use Rattle.std.proofs.Common.{◌≡◌}
use Rattle.switch_sim.specs.Switch.{IsSettledSwitch}
use Rattle.switch_sim.proofs.tests.frames_are_learned_from_and_relayed.Given as goal

abbrev pub invariant-loop-case : goal.invariant-loop-case
invariant-loop-case g l = IsSettledSwitch l.switch l.now × (l.switch.ports ≡ 3)
