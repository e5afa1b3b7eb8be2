use Rattle.std.proofs.Common.{◌≤◌, ◌+◌, length}
use Rattle.mesh_core.specs.MeshOf.{IsMesh}
use Rattle.replay_run.proofs.Taken.{AreTaken}
use Rattle.replay_run.proofs.schedule.replay.Given as goal

abbrev pub invariant-lines : goal.invariant-lines
invariant-lines g l = AreTaken g.V.Device.behaviour l.schedule l.fn.mesh l.now l.rest l.number × IsMesh g.V.Device.behaviour g.V.Device.settled l.now × (l.number + length l.rest ≤ length l.schedule)

abbrev pub decreases-lines : goal.decreases-lines
decreases-lines g l = length l.rest
