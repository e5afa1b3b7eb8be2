use Rattle.std.proofs.Common.{length}
use Rattle.mesh_core.specs.Building.{IsBuilding}
use Rattle.mesh_core.proofs.build.runners_of.Given as goal

abbrev pub invariant-devices : goal.invariant-devices
invariant-devices g l = IsBuilding g.V.Device.behaviour l.links l.end l.fn.devices.items l.runners.items l.left

abbrev pub decreases-devices : goal.decreases-devices
decreases-devices g l = length l.left
