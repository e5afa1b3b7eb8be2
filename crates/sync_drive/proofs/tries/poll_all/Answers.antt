use Rattle.std.proofs.Common.{arith}
use Rattle.std.proofs.lemmas.Option.{slice_get-get_or}
use Rattle.std.proofs.lemmas.Result.{err_from_is_err_and}
use Rattle.sync_drive.specs.Tries.PollsRan.{no_polls}
use Rattle.sync_drive.proofs.Kept.{polls_on, is_in, poll_took, poll_none, poll_failed}
use Rattle.sync_drive.proofs.tries.poll_all.Goals.{then-branch, else-branch}
use Rattle.sync_drive.proofs.tries.poll_all.Goals as goal

pub loop-port-init : goal.loop-port-init
loop-port-init g c = record { ran = no_polls; within = omega arith }

pub poll-requires : goal.poll-requires
poll-requires g c =
    let so_far = polls_on g.V.Device.behaviour g.V.Device.settled g.met.V.Device.lawful g.R.RxPort.kind g.R.RxPort.stands g.R.RxPort.pops g.R.RxPort.empties g.met.R.RxPort.pop_adds g.met.R.RxPort.pop_streams g.met.R.RxPort.pop_kind g.met.R.RxPort.empty_keeps g.met.R.RxPort.empty_kind c.args.runner.now c.args.rxs.now c.requires.stands c.loop-port.port c.loop-port.heard c.loop-port.runner c.loop-port.rxs c.loop-port.invariant.ran in
    record { there = is_in g.V.Device.behaviour g.V.Device.settled g.met.V.Device.lawful g.R.RxPort.kind g.R.RxPort.stands so_far.start so_far.position so_far.sent c.loop-port.runner c.loop-port.rxs so_far.now c.loop-port.port _ (slice_get-get_or c.loop-port.rxs c.loop-port.port c.index-rxs-port.result (let within = c.loop-port-test.true in let same = c.loop-port.auto.rxs in omega arith)) }

pub loop-port-preserved : goal.loop-port-preserved
loop-port-preserved g c =
    let there = slice_get-get_or c.loop-port.rxs c.loop-port.port c.index-rxs-port.result (let within = c.loop-port-test.true in let same = c.loop-port.auto.rxs in omega arith) in
    elim c.if-branch.branch [
      | then-branch w ↦ record { ran = poll_took g.R.RxPort.pops g.R.RxPort.empties c.args.runner.now c.args.rxs.now c.loop-port.port c.loop-port.heard c.if-branch.heard c.loop-port.runner c.poll.new.self c.loop-port.rxs _ c.poll.new.rx c.loop-port.invariant.ran there c.in_ok-poll.field-0 w.if-branch.true c.in_ok-poll.ensures w.heard-is; within = let so_far = c.loop-port.invariant.within in let is = w.heard-is in omega arith }
      | else-branch w ↦ record { ran = poll_none g.R.RxPort.pops g.R.RxPort.empties c.args.runner.now c.args.rxs.now c.loop-port.port c.loop-port.heard c.if-branch.heard c.loop-port.runner c.poll.new.self c.loop-port.rxs _ c.poll.new.rx c.loop-port.invariant.ran there c.in_ok-poll.field-0 w.if-branch.false c.in_ok-poll.ensures w.heard-is; within = let so_far = c.loop-port.invariant.within in let is = w.heard-is in omega arith }
    ]

pub returns-in_err-poll : goal.returns-in_err-poll
returns-in_err-poll g c =
    let answer = err_from_is_err_and c.from_residual.result c.from_residual.ensures.1 in
    rw (answer.1, answer.2) (poll_failed g.R.RxPort.pops g.R.RxPort.empties c.args.runner.now c.args.rxs.now c.loop-port.port c.loop-port.heard c.loop-port.runner c.poll.new.self c.loop-port.rxs _ c.poll.new.rx c.in_err-poll.field-0.0 c.loop-port.invariant.ran (slice_get-get_or c.loop-port.rxs c.loop-port.port c.index-rxs-port.result (let within = c.loop-port-test.true in let same = c.loop-port.auto.rxs in omega arith)) c.in_err-poll.ensures)
