use Rattle.std.proofs.Common.{◌≡◌, map, []}
use Rattle.global_model.proofs.global_run.components_of.Given as goal

abbrev pub invariant-loop-device : goal.invariant-loop-device
invariant-loop-device g l = l.components.items ≡ map (λ device. record { device = device; log = [] }) l.yielded
