use Rattle.std.proofs.Common.{◌≡◌, ◌++◌, drop}
use Rattle.device_set.specs.Images.{image_names}
use Rattle.device_set.proofs.images.image_names.Given as goal

abbrev pub invariant-loop-component : goal.invariant-loop-component
invariant-loop-component l = image_names l.topology.components ≡ l.names.items ++ image_names (drop l.component-index l.topology.components)
