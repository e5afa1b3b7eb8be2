use Rattle.sync_drive.proofs.Moves.{turn_tries, failure_tries}
use Rattle.sync_drive.proofs.laws.a_turn_tries_each_end_once.Goals as goal

pub returns-clause-turned : goal.returns-clause-turned
returns-clause-turned g c = λ old new txs txs' rxs rxs' turn made. turn_tries g.V.Device.behaviour g.T.TxPort.pushes g.T.TxPort.refuses g.R.RxPort.pops g.R.RxPort.empties old txs rxs new txs' rxs' turn made

pub returns-clause-failed : goal.returns-clause-failed
returns-clause-failed g c = λ old new txs txs' rxs rxs' bad failed. failure_tries g.V.Device.behaviour g.T.TxPort.pushes g.T.TxPort.refuses g.R.RxPort.pops g.R.RxPort.empties old txs rxs new txs' rxs' bad failed
