use Rattle.std.proofs.Common.{arith, ◌≤◌}
use Rattle.global_model.specs.Runs.{system_of}
use Rattle.global_model.proofs.RunLaws.{at_own_time}
use Rattle.pair_tests.proofs.simulated.simulate_in_parts.Goals as goal

pub advance-requires-clause-may_run : goal.advance-requires-clause-may_run
advance-requires-clause-may_run g c = (system_of c.args.wiring.now c.args.devices.items, at_own_time c.in_ok-run.ensures, omega (arith, c.first_of-middle.ensures))

pub advance-requires-2-clause-may_run : goal.advance-requires-2-clause-may_run
advance-requires-2-clause-may_run g c =
    let system = system_of c.args.wiring.now c.args.devices.items in
    let ends : c.first_of-middle.result ≤ c.args.wiring.now.end = omega (arith, c.first_of-middle.ensures) in
    (system, at_own_time (c.in_ok-advance.ensures system (at_own_time c.in_ok-run.ensures) ends), omega arith)

pub into_outcome-requires : goal.into_outcome-requires
into_outcome-requires g c =
    let system = system_of c.args.wiring.now c.args.devices.items in
    let ends : c.first_of-middle.result ≤ c.args.wiring.now.end = omega (arith, c.first_of-middle.ensures) in
    let there = at_own_time (c.in_ok-advance.ensures system (at_own_time c.in_ok-run.ensures) ends) in
    (system, at_own_time (c.in_ok-advance-2.ensures system there (omega arith)))
