use Rattle.std.proofs.Common.{arith}
use Rattle.std.proofs.lemmas.Grind.{common_steps}
use Rattle.sync_drive.proofs.Fit.{fit_if}
use Rattle.sync_drive.proofs.Moves.{unmoved_if}
use Rattle.sync_drive.proofs.driver.Driver.turn.Goals as goal

pub returns-clause-unmoved : goal.returns-clause-unmoved
returns-clause-unmoved g c = unmoved_if g.V.Device.behaviour g.T.TxPort.pushes g.T.TxPort.refuses g.R.RxPort.pops g.R.RxPort.empties c.args.self.now.runner c.args.self.now.txs.items c.args.self.now.rxs.items _ _ _ c.make-answer.result (grind (arith, common_steps))

pub returns-clause-fit : goal.returns-clause-fit
returns-clause-fit g c = fit_if g.V.Device.behaviour g.V.Device.settled g.met.V.Device.lawful g.T.TxPort.kind g.T.TxPort.stands g.R.RxPort.kind g.R.RxPort.stands g.R.RxPort.pops g.R.RxPort.empties g.met.R.RxPort.pop_adds g.met.R.RxPort.pop_streams g.met.R.RxPort.pop_kind g.met.R.RxPort.empty_keeps g.met.R.RxPort.empty_kind g.T.TxPort.pushes g.T.TxPort.refuses g.met.T.TxPort.push_adds g.met.T.TxPort.push_kind g.met.T.TxPort.refusal_keeps g.met.T.TxPort.refusal_kind c.args.self.now.runner _ c.args.self.now.txs.items _ c.args.self.now.rxs.items _ c.requires.fit c.make-answer.result (grind (arith, common_steps))
