use Rattle.tcp_proxy.specs.Filled.{IsFilled}
use Rattle.tcp_proxy.proofs.tests.fill.Given as goal

abbrev pub invariant-loop : goal.invariant-loop
invariant-loop l = IsFilled l.proxy l.queue
