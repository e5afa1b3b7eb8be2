use Rattle.sync_drive.specs.Standing.{IsFit}
use Rattle.sync_drive.proofs.tests.drive.Given as goal

abbrev pub invariant-loop-round : goal.invariant-loop-round
invariant-loop-round g l = record {
  first : IsFit g.V.Device.behaviour g.V.Device.settled g.T.TxPort.kind g.T.TxPort.stands g.R.RxPort.kind g.R.RxPort.stands l.a.runner l.a.txs.items l.a.rxs.items;
  second : IsFit g.V.Device.behaviour g.V.Device.settled g.T.TxPort.kind g.T.TxPort.stands g.R.RxPort.kind g.R.RxPort.stands l.b.runner l.b.txs.items l.b.rxs.items;
}
