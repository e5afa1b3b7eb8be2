use Rattle.std.proofs.Common.{◌≡◌, ℕ, ◌+◌, cond}
use Rattle.mesh_core.specs.Walk.{Walk, is_everyone}
use Rattle.mesh_core.proofs.Numbered.{number_of}
use Rattle.mesh_core.proofs.mesh.Mesh.serial.Given as goal

abbrev pub invariant-rounds : goal.invariant-rounds
invariant-rounds g l = record {
  steps : ℕ;
  walk : Walk g.V.Device.behaviour l.fn.self steps l.self;
  same : l.seen.mesh.value ≡ l.self;
}

abbrev pub decreases-rounds : goal.decreases-rounds
decreases-rounds g l = number_of g.V.Device.behaviour g.V.Device.settled g.met.V.Device.lawful l.seen.mesh.value l.seen.known + number_of g.V.Device.behaviour g.V.Device.settled g.met.V.Device.lawful l.seen.mesh.value l.seen.known + cond (is_everyone l.awake) 0 1
