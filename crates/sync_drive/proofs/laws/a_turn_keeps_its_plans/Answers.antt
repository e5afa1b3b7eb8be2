use Rattle.sync_drive.proofs.Plans.{turn_keeps}
use Rattle.sync_drive.proofs.laws.a_turn_keeps_its_plans.Goals as goal

pub returns-clause-end : goal.returns-clause-end
returns-clause-end g c = λ old new txs txs' rxs rxs' turn made. (turn_keeps g.V.Device.behaviour g.T.TxPort.pushes g.T.TxPort.refuses g.R.RxPort.pops g.R.RxPort.empties old new txs txs' rxs rxs' turn made).same_end

pub returns-clause-outgoing : goal.returns-clause-outgoing
returns-clause-outgoing g c = λ old new txs txs' rxs rxs' turn made. (turn_keeps g.V.Device.behaviour g.T.TxPort.pushes g.T.TxPort.refuses g.R.RxPort.pops g.R.RxPort.empties old new txs txs' rxs rxs' turn made).outs

pub returns-clause-incoming : goal.returns-clause-incoming
returns-clause-incoming g c = λ old new txs txs' rxs rxs' turn made. (turn_keeps g.V.Device.behaviour g.T.TxPort.pushes g.T.TxPort.refuses g.R.RxPort.pops g.R.RxPort.empties old new txs txs' rxs rxs' turn made).ins
