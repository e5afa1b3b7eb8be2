use Rattle.std.proofs.Common.{◌<◌, length, arith, subst}
use Rattle.std.proofs.lemmas.Result.{err_from_is_err_and}
use Rattle.sync_drive.specs.Turns.{Cause}
use Rattle.sync_drive.specs.Turns.Cause.{it_moved}
use Rattle.sync_drive.specs.Turns.Failed.{in_polls, in_events}
use Rattle.sync_drive.proofs.Causes.{some_of}
use Rattle.sync_drive.proofs.Fit.{for_polls, for_events, few_in, few_out, fit_sends, fit_polls, fit_events}
use Rattle.sync_drive.proofs.make.make.Goals.{else-sent-eq0-via-then-sent-eq0+then-heard-eq0+else-ran-eq0, else-sent-eq0-via-then-sent-eq0+else-heard-eq0, else-sent-eq0-via-else-sent-eq0}
use Rattle.sync_drive.proofs.make.make.Goals as goal

pub poll_all-requires : goal.poll_all-requires
poll_all-requires g c =
    let sent = fit_sends g.V.Device.behaviour g.V.Device.settled g.met.V.Device.lawful g.T.TxPort.kind g.T.TxPort.stands g.R.RxPort.kind g.R.RxPort.stands g.T.TxPort.pushes g.T.TxPort.refuses g.met.T.TxPort.push_adds g.met.T.TxPort.push_kind g.met.T.TxPort.refusal_keeps g.met.T.TxPort.refusal_kind c.args.runner.now c.args.txs.now c.args.rxs.now c.requires (length c.args.txs.now) c.send_all-sent.result c.send_all-sent.new.runner c.send_all-sent.new.txs c.send_all-sent.ensures in
    record { stands = for_polls g.V.Device.behaviour g.V.Device.settled g.met.V.Device.lawful g.T.TxPort.kind g.T.TxPort.stands g.R.RxPort.kind g.R.RxPort.stands c.send_all-sent.new.runner c.send_all-sent.new.txs c.args.rxs.now sent }

pub events-requires : goal.events-requires
events-requires g c =
    let sent = fit_sends g.V.Device.behaviour g.V.Device.settled g.met.V.Device.lawful g.T.TxPort.kind g.T.TxPort.stands g.R.RxPort.kind g.R.RxPort.stands g.T.TxPort.pushes g.T.TxPort.refuses g.met.T.TxPort.push_adds g.met.T.TxPort.push_kind g.met.T.TxPort.refusal_keeps g.met.T.TxPort.refusal_kind c.args.runner.now c.args.txs.now c.args.rxs.now c.requires (length c.args.txs.now) c.send_all-sent.result c.send_all-sent.new.runner c.send_all-sent.new.txs c.send_all-sent.ensures in
    let heard = fit_polls g.V.Device.behaviour g.V.Device.settled g.met.V.Device.lawful g.T.TxPort.kind g.T.TxPort.stands g.R.RxPort.kind g.R.RxPort.stands g.R.RxPort.pops g.R.RxPort.empties g.met.R.RxPort.pop_adds g.met.R.RxPort.pop_streams g.met.R.RxPort.pop_kind g.met.R.RxPort.empty_keeps g.met.R.RxPort.empty_kind c.send_all-sent.new.runner c.send_all-sent.new.txs c.args.rxs.now sent (length c.args.rxs.now) c.in_ok-heard.heard c.poll_all.new.runner c.poll_all.new.rxs c.in_ok-heard.ensures in
    record { ready = for_events g.V.Device.behaviour g.V.Device.settled g.met.V.Device.lawful g.T.TxPort.kind g.T.TxPort.stands g.R.RxPort.kind g.R.RxPort.stands c.poll_all.new.runner c.send_all-sent.new.txs c.poll_all.new.rxs heard }

pub why-requires : goal.why-requires
why-requires g c =
    let sent = fit_sends g.V.Device.behaviour g.V.Device.settled g.met.V.Device.lawful g.T.TxPort.kind g.T.TxPort.stands g.R.RxPort.kind g.R.RxPort.stands g.T.TxPort.pushes g.T.TxPort.refuses g.met.T.TxPort.push_adds g.met.T.TxPort.push_kind g.met.T.TxPort.refusal_keeps g.met.T.TxPort.refusal_kind c.args.runner.now c.args.txs.now c.args.rxs.now c.requires (length c.args.txs.now) c.send_all-sent.result c.send_all-sent.new.runner c.send_all-sent.new.txs c.send_all-sent.ensures in
    let heard = fit_polls g.V.Device.behaviour g.V.Device.settled g.met.V.Device.lawful g.T.TxPort.kind g.T.TxPort.stands g.R.RxPort.kind g.R.RxPort.stands g.R.RxPort.pops g.R.RxPort.empties g.met.R.RxPort.pop_adds g.met.R.RxPort.pop_streams g.met.R.RxPort.pop_kind g.met.R.RxPort.empty_keeps g.met.R.RxPort.empty_kind c.send_all-sent.new.runner c.send_all-sent.new.txs c.args.rxs.now sent (length c.args.rxs.now) c.in_ok-heard.heard c.poll_all.new.runner c.poll_all.new.rxs c.in_ok-heard.ensures in
    let ran = fit_events g.V.Device.behaviour g.V.Device.settled g.met.V.Device.lawful g.T.TxPort.kind g.T.TxPort.stands g.R.RxPort.kind g.R.RxPort.stands c.poll_all.new.runner c.send_all-sent.new.txs c.poll_all.new.rxs heard c.in-Ok.ran c.events.new.self c.in-Ok.ensures.ran in
    record {
      few_out = few_out g.V.Device.behaviour g.V.Device.settled g.met.V.Device.lawful g.T.TxPort.kind g.T.TxPort.stands g.R.RxPort.kind g.R.RxPort.stands c.events.new.self c.send_all-sent.new.txs c.poll_all.new.rxs ran;
      few_in = few_in g.V.Device.behaviour g.V.Device.settled g.met.V.Device.lawful g.T.TxPort.kind g.T.TxPort.stands g.R.RxPort.kind g.R.RxPort.stands c.events.new.self c.send_all-sent.new.txs c.poll_all.new.rxs ran;
      stopped = c.in-Ok.ensures.stopped (let none = c.if-ran-eq0.true in omega arith);
    }

pub returns-then-ran-eq0 : goal.returns-then-ran-eq0
returns-then-ran-eq0 g c = record {
  sends = c.send_all-sent.result;
  receipts = c.in_ok-heard.heard;
  events = c.in-Ok.ran;
  after_sends = c.send_all-sent.new.runner;
  after_polls = c.poll_all.new.runner;
  sent = c.send_all-sent.ensures;
  polled = c.in_ok-heard.ensures;
  ran = c.in-Ok.ensures;
  cause = subst (λ n. Cause g.V.Device.behaviour c.events.new.self n c.why.result) (let no_sends = c.if-sent-eq0.true in let no_polls = c.if-heard-eq0.true in let no_events = c.if-ran-eq0.true in omega arith) c.why.ensures;
}

pub returns-else-sent-eq0 : goal.returns-else-sent-eq0
returns-else-sent-eq0 g c = record {
  sends = c.send_all-sent.result;
  receipts = c.in_ok-heard.heard;
  events = c.in-Ok.ran;
  after_sends = c.send_all-sent.new.runner;
  after_polls = c.poll_all.new.runner;
  sent = c.send_all-sent.ensures;
  polled = c.in_ok-heard.ensures;
  ran = c.in-Ok.ensures;
  cause = it_moved (elim c.else-sent-eq0.branch [
    | else-sent-eq0-via-then-sent-eq0+then-heard-eq0+else-ran-eq0 w ↦ let some : 0 < c.in-Ok.ran = some_of c.in-Ok.ran w.if-ran-eq0.false in omega arith
    | else-sent-eq0-via-then-sent-eq0+else-heard-eq0 w ↦ let some : 0 < c.in_ok-heard.heard = some_of c.in_ok-heard.heard w.if-heard-eq0.false in omega arith
    | else-sent-eq0-via-else-sent-eq0 w ↦ let some : 0 < c.send_all-sent.result = some_of c.send_all-sent.result w.if-sent-eq0.false in omega arith
  ]);
}

pub returns-in_err-heard : goal.returns-in_err-heard
returns-in_err-heard g c =
    let answer = err_from_is_err_and c.from_residual.result c.from_residual.ensures.1 in
    rw (answer.1, answer.2) (in_polls c.send_all-sent.result c.send_all-sent.new.runner c.in_err-heard.field-0.0 c.send_all-sent.ensures c.in_err-heard.ensures)

pub returns-in-Err : goal.returns-in-Err
returns-in-Err g c = in_events c.send_all-sent.result c.in_ok-heard.heard c.send_all-sent.new.runner c.poll_all.new.runner c.send_all-sent.ensures c.in_ok-heard.ensures
