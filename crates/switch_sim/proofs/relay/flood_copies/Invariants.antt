use Rattle.std.proofs.Common.{◌≡◌, ◌++◌}
use Rattle.switch_sim.specs.Switch.{flood}
use Rattle.switch_sim.proofs.relay.flood_copies.Given as goal

-- the ports before this one are done
abbrev pub invariant-loop-port : goal.invariant-loop-port
invariant-loop-port l = (l.out.sends ≡ l.initial.out.sends ++ flood l.message l.arrival l.port) × (l.out.lines ≡ l.initial.out.lines)
