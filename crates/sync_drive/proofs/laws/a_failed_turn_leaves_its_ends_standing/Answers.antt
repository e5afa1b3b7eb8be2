use Rattle.sync_drive.proofs.Failures.{failure_stands}
use Rattle.sync_drive.proofs.laws.a_failed_turn_leaves_its_ends_standing.Goals as goal

pub returns : goal.returns
returns g c = λ start old new txs txs' rxs rxs' bad stood failed. failure_stands g.V.Device.behaviour g.V.Device.settled g.met.V.Device.lawful g.T.TxPort.kind g.T.TxPort.stands g.R.RxPort.kind g.R.RxPort.stands g.R.RxPort.pops g.R.RxPort.empties g.met.R.RxPort.pop_adds g.met.R.RxPort.pop_streams g.met.R.RxPort.pop_kind g.met.R.RxPort.empty_keeps g.met.R.RxPort.empty_kind g.T.TxPort.pushes g.T.TxPort.refuses g.met.T.TxPort.push_adds g.met.T.TxPort.push_kind g.met.T.TxPort.refusal_keeps g.met.T.TxPort.refusal_kind start old txs rxs stood new txs' rxs' bad failed
