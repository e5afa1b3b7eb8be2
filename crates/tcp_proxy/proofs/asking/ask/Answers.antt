use Rattle.std.specs.Prelude.{Ok}
use Rattle.std.proofs.Common.{sym, ap, ◌∙◌}
use Rattle.tcp_proxy.proofs.Asked.{took}
use Rattle.tcp_proxy.proofs.asking.ask.Goals as goal

pub returns-in-Took-clause-asked : goal.returns-in-Took-clause-asked
returns-in-Took-clause-asked g c =
    took g.I.WireIn.seen c.args.wire.now c.receive.new.wire c.receive.result c.args.room.now.items c.make_room.new.room.items c.receive.new.room.items c.as_slice.result.now c.args.used.now c.in-Took.count c.args.frames.now c.deframe.new.frames c.deframe.result
    (sym c.ended.ensures ∙ c.if-ended.false) (c.in_ok-receive.was ∙ ap Ok c.in-Took.is) c.make_room.ensures.keeps c.receive.ensures c.as_slice.ensures.value c.deframe.ensures
