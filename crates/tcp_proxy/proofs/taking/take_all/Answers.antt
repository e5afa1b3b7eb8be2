use Rattle.std.proofs.Common.{refl, arith}
use Rattle.tcp_proxy.proofs.Popping.{taking_first, taking_more, takes_none, takes_all}
use Rattle.tcp_proxy.proofs.taking.take_all.Goals as goal

pub loop-taken-init : goal.loop-taken-init
loop-taken-init g c = taking_first g.R.RxPort.kind g.R.RxPort.stands g.R.RxPort.pops c.args.kept.now.items c.args.near.now

pub loop-taken-preserved : goal.loop-taken-preserved
loop-taken-preserved g c =
    let port = g.R.RxPort in
    let laws = g.met.R.RxPort in
    taking_more port.kind port.stands port.pops port.empties laws.pop_adds laws.pop_streams laws.pop_kind laws.empty_keeps laws.empty_kind
    c.args.kept.now.items c.loop-taken.kept.items c.reserve.new.self.items c.frame_reserved.new.out.items c.args.near.now c.loop-taken.near c.pop.new.self c.loop-taken.taken c.in-Some.m
    c.loop-taken.invariant c.reserve.ensures.items c.in-Some.ensures c.frame_reserved.ensures

pub returns-in_default : goal.returns-in_default
returns-in_default g c =
    let port = g.R.RxPort in
    let laws = g.met.R.RxPort in
    takes_none port.kind port.stands port.pops port.empties laws.pop_adds laws.pop_streams laws.pop_kind laws.empty_keeps laws.empty_kind
    c.args.kept.now.items c.reserve.new.self.items c.loop-taken.kept.items c.args.near.now c.loop-taken.near c.pop.new.self c.loop-taken.taken
    c.loop-taken.invariant c.reserve.ensures.items c.in_default.ensures

pub returns : goal.returns
returns g c =
    let port = g.R.RxPort in
    let laws = g.met.R.RxPort in
    takes_all port.kind port.stands port.pops port.empties laws.pop_adds laws.pop_streams laws.pop_kind laws.empty_keeps laws.empty_kind
    c.args.kept.now.items c.loop-taken.kept.items c.loop-taken.kept.items c.args.near.now c.loop-taken.near c.loop-taken.taken 1024
    c.loop-taken.invariant refl (omega arith) (omega arith)
