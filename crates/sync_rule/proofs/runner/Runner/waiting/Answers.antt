use Rattle.std.proofs.Common.{arith}
use Rattle.std.proofs.lemmas.Option.{slice_get_within}
use Rattle.sync_rule.proofs.runner.Runner.waiting.Goals as goal

pub overflow_cast-result : goal.overflow_cast-result
overflow_cast-result g c = omega (arith, slice_get_within c.args.self.now.outgoing c.in-Some.port c.in-Some.ensures.waits.is c.in-Some.ensures.waits.there, c.requires)
