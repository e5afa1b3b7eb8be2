use Rattle.tcp_proxy.proofs.Pushing.{IsGiving}
use Rattle.tcp_proxy.proofs.giving.push_all.Given as goal

abbrev pub invariant-loop-pushed : goal.invariant-loop-pushed
invariant-loop-pushed g l = IsGiving g.T.TxPort.kind g.T.TxPort.stands g.T.TxPort.pushes l.fn.frames l.fn.held l.fn.far l.frames l.held l.far l.pushed
