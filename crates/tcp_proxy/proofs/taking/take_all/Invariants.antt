use Rattle.tcp_proxy.proofs.Popping.{IsTaking}
use Rattle.tcp_proxy.proofs.taking.take_all.Given as goal

abbrev pub invariant-loop-taken : goal.invariant-loop-taken
invariant-loop-taken g l = IsTaking g.R.RxPort.kind g.R.RxPort.stands g.R.RxPort.pops l.fn.kept.items l.fn.near l.kept.items l.near l.taken
