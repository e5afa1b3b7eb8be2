use Rattle.std.proofs.Common.{arith}
use Rattle.switch_sim.proofs.tests.parts_make_the_switch_again.Goals as goal

pub lookup-requires : goal.lookup-requires
lookup-requires g c = c.in_ok-again.ensures.settled 1001 (omega arith)

pub lookup-requires-2 : goal.lookup-requires-2
lookup-requires-2 g c = c.in_ok-again.ensures.settled 1001 (omega arith)

pub lookup-requires-3 : goal.lookup-requires-3
lookup-requires-3 g c = c.in_ok-again.ensures.settled 1001 (omega arith)

pub lookup-requires-4 : goal.lookup-requires-4
lookup-requires-4 g c = c.in_ok-again.ensures.settled 1002 (omega arith)
