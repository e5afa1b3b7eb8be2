use Rattle.std.proofs.Common.{arith}
use Rattle.global_model.specs.Runs.{system_of}
use Rattle.global_model.proofs.RunLaws.{at_own_time}
use Rattle.runner_bench.proofs.tests.run_to_end.Goals as goal

pub advance-requires-clause-may_run : goal.advance-requires-clause-may_run
advance-requires-clause-may_run c = (system_of c.args.wiring.now c.args.devices.items, at_own_time c.in_ok-run.ensures, omega arith)
