use Rattle.std.proofs.Common.{◌≤◌}
use Rattle.sync_drive.specs.Tries.{PollsRan}
use Rattle.sync_drive.proofs.tries.poll_all.Given as goal

abbrev pub invariant-loop-port : goal.invariant-loop-port
invariant-loop-port g l = record {
  ran : PollsRan g.R.RxPort.pops g.R.RxPort.empties l.fn.runner l.fn.rxs l.port l.heard l.runner l.rxs;
  within : l.heard ≤ l.port;
}
