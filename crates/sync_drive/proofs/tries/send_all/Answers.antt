use Rattle.std.proofs.Common.{arith}
use Rattle.std.proofs.lemmas.Option.{slice_get-get_or}
use Rattle.sync_drive.specs.Tries.SendsRan.{no_sends}
use Rattle.sync_drive.proofs.Kept.{sends_on, is_out, may_send, send_took, send_kept}
use Rattle.sync_drive.proofs.tries.send_all.Goals.{then-send, else-send}
use Rattle.sync_drive.proofs.tries.send_all.Goals as goal

pub loop-port-init : goal.loop-port-init
loop-port-init g c = record { ran = no_sends; within = omega arith }

pub send-requires-clause-there : goal.send-requires-clause-there
send-requires-clause-there g c =
    let so_far = sends_on g.V.Device.behaviour g.V.Device.settled g.met.V.Device.lawful g.T.TxPort.kind g.T.TxPort.stands g.T.TxPort.pushes g.T.TxPort.refuses g.met.T.TxPort.push_adds g.met.T.TxPort.push_kind g.met.T.TxPort.refusal_keeps g.met.T.TxPort.refusal_kind c.args.runner.now c.args.txs.now c.requires.stands c.loop-port.port c.loop-port.sent c.loop-port.runner c.loop-port.txs c.loop-port.invariant.ran in
    is_out g.V.Device.behaviour g.V.Device.settled g.met.V.Device.lawful g.T.TxPort.kind g.T.TxPort.stands so_far.start so_far.position so_far.received c.loop-port.runner c.loop-port.txs so_far.now c.loop-port.port _ (slice_get-get_or c.loop-port.txs c.loop-port.port c.index-txs-port.result (let within = c.loop-port-test.true in let same = c.loop-port.auto.txs in omega arith))

pub send-requires-clause-next : goal.send-requires-clause-next
send-requires-clause-next g c =
    let so_far = sends_on g.V.Device.behaviour g.V.Device.settled g.met.V.Device.lawful g.T.TxPort.kind g.T.TxPort.stands g.T.TxPort.pushes g.T.TxPort.refuses g.met.T.TxPort.push_adds g.met.T.TxPort.push_kind g.met.T.TxPort.refusal_keeps g.met.T.TxPort.refusal_kind c.args.runner.now c.args.txs.now c.requires.stands c.loop-port.port c.loop-port.sent c.loop-port.runner c.loop-port.txs c.loop-port.invariant.ran in
    may_send g.V.Device.behaviour g.V.Device.settled g.met.V.Device.lawful g.T.TxPort.kind g.T.TxPort.stands so_far.start so_far.position so_far.received c.loop-port.runner c.loop-port.txs so_far.now c.loop-port.port _ (slice_get-get_or c.loop-port.txs c.loop-port.port c.index-txs-port.result (let within = c.loop-port-test.true in let same = c.loop-port.auto.txs in omega arith))

pub loop-port-preserved : goal.loop-port-preserved
loop-port-preserved g c =
    let there = slice_get-get_or c.loop-port.txs c.loop-port.port c.index-txs-port.result (let within = c.loop-port-test.true in let same = c.loop-port.auto.txs in omega arith) in
    elim c.if-send.branch [
      | then-send w ↦ record { ran = send_took g.T.TxPort.pushes g.T.TxPort.refuses c.args.runner.now c.args.txs.now c.loop-port.port c.loop-port.sent c.if-send.sent c.loop-port.runner c.send.new.self c.loop-port.txs _ c.send.new.tx c.loop-port.invariant.ran there c.send.result w.if-send.true c.send.ensures w.sent-is; within = let so_far = c.loop-port.invariant.within in let is = w.sent-is in omega arith }
      | else-send w ↦ record { ran = send_kept g.T.TxPort.pushes g.T.TxPort.refuses c.args.runner.now c.args.txs.now c.loop-port.port c.loop-port.sent c.if-send.sent c.loop-port.runner c.send.new.self c.loop-port.txs _ c.send.new.tx c.loop-port.invariant.ran there c.send.result w.if-send.false c.send.ensures w.sent-is; within = let so_far = c.loop-port.invariant.within in let is = w.sent-is in omega arith }
    ]
