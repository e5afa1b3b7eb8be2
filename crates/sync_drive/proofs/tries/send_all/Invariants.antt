use Rattle.std.proofs.Common.{◌≤◌}
use Rattle.sync_drive.specs.Tries.{SendsRan}
use Rattle.sync_drive.proofs.tries.send_all.Given as goal

abbrev pub invariant-loop-port : goal.invariant-loop-port
invariant-loop-port g l = record {
  ran : SendsRan g.T.TxPort.pushes g.T.TxPort.refuses l.fn.runner l.fn.txs l.port l.sent l.runner l.txs;
  within : l.sent ≤ l.port;
}
