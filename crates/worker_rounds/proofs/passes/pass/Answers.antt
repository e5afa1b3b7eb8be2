use Rattle.std.proofs.Common.{arith}
use Rattle.worker_rounds.proofs.Passing.{pass_done}
use Rattle.worker_rounds.proofs.passes.pass.Goals as goal

pub returns-clause-went : goal.returns-clause-went
returns-clause-went g c = pass_done g.M.Member.does c.args.members.now c.loop-place.members c.loop-place.place c.loop-place.invariant.so_far (omega arith)
