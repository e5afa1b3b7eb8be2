use Rattle.std.proofs.Common.{arith}
use Rattle.sync_rule.specs.Times.{quiet_of}
use Rattle.sync_rule.proofs.Chosen.{timed_within}
use Rattle.sync_rule.proofs.Looked.{front_needed}
use Rattle.sync_rule.proofs.runner.Runner.barred.Goals as goal

pub returns-in-None : goal.returns-in-None
returns-in-None g c = record { needed = c.needed-needed.result; is_needed = front_needed g.V.Device.behaviour c.args.self.now c.front.result c.front.ensures.front c.needed-needed.result c.needed-needed.ensures; none = c.in-None.ensures }

pub overflow_cast-result : goal.overflow_cast-result
overflow_cast-result g c = omega (arith, timed_within quiet_of c.args.self.now.incoming c.in-Some.port c.in-Some.ensures.bars.bound c.in-Some.ensures.bars.quiet, c.requires)

pub returns-in-Some : goal.returns-in-Some
returns-in-Some g c = record { needed = c.needed-needed.result; is_needed = front_needed g.V.Device.behaviour c.args.self.now c.front.result c.front.ensures.front c.needed-needed.result c.needed-needed.ensures; bars = c.in-Some.ensures }
