use Rattle.std.specs.Prelude.{◌++◌, Some}
use Rattle.std.proofs.Common.{ap, ◌∙◌}
use Rattle.tcp_proxy.proofs.Pushing.{giving_first, giving_more, gives_refused, gives_none, next_sent}
use Rattle.tcp_proxy.proofs.giving.push_all.Goals as goal

pub loop-pushed-init : goal.loop-pushed-init
loop-pushed-init g c = giving_first g.T.TxPort.kind g.T.TxPort.stands g.T.TxPort.pushes c.args.frames.now c.args.held.now c.args.far.now

pub push-requires : goal.push-requires
push-requires g c =
    let port = g.T.TxPort in
    let laws = g.met.T.TxPort in
    let stream = c.requires.0 in
    let fit = c.requires.1 in
    next_sent port.kind port.stands port.pushes port.refuses laws.push_adds laws.push_kind laws.refusal_keeps laws.refusal_kind
    c.loop-pushed.frames c.next_out.new.frames c.loop-pushed.held c.next_out.new.held stream c.loop-pushed.far (fit.pushed ++ c.loop-pushed.invariant.messages) c.in-Some.m
    (c.loop-pushed.invariant.on stream fit.pushed fit.meets) c.in-Some.ensures

pub returns-in_default : goal.returns-in_default
returns-in_default g c =
    let port = g.T.TxPort in
    let laws = g.met.T.TxPort in
    gives_none port.kind port.stands port.pushes port.refuses laws.push_adds laws.push_kind laws.refusal_keeps laws.refusal_kind
    c.args.frames.now c.loop-pushed.frames c.next_out.new.frames c.args.held.now c.loop-pushed.held c.next_out.new.held c.args.far.now c.loop-pushed.far c.loop-pushed.pushed
    c.loop-pushed.invariant c.in_default.ensures.0 c.in_default.ensures.1 c.in_default.ensures.2

pub returns-in-Err : goal.returns-in-Err
returns-in-Err g c =
    let port = g.T.TxPort in
    let laws = g.met.T.TxPort in
    gives_refused port.kind port.stands port.pushes port.refuses laws.push_adds laws.push_kind laws.refusal_keeps laws.refusal_kind
    c.args.frames.now c.loop-pushed.frames c.next_out.new.frames c.args.held.now c.loop-pushed.held c.next_out.new.held (Some c.message_of.result) c.args.far.now c.loop-pushed.far c.push.new.self c.loop-pushed.pushed c.in-Some.m
    c.loop-pushed.invariant c.in-Some.ensures c.in-Err.ensures.1 (ap Some (c.message_of.ensures ∙ c.in-Err.ensures.0))

pub loop-pushed-preserved : goal.loop-pushed-preserved
loop-pushed-preserved g c =
    let port = g.T.TxPort in
    let laws = g.met.T.TxPort in
    giving_more port.kind port.stands port.pushes port.refuses laws.push_adds laws.push_kind laws.refusal_keeps laws.refusal_kind
    c.args.frames.now c.loop-pushed.frames c.next_out.new.frames c.args.held.now c.loop-pushed.held c.next_out.new.held c.args.far.now c.loop-pushed.far c.push.new.self c.loop-pushed.pushed c.in-Some.m
    c.loop-pushed.invariant c.in-Some.ensures c.in_default-push.ensures
