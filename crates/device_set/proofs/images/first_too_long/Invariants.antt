use Rattle.std.proofs.Common.{◌≡◌, drop}
use Rattle.device_set.specs.Images.{too_long_from}
use Rattle.device_set.proofs.images.first_too_long.Given as goal

abbrev pub invariant-loop-number : goal.invariant-loop-number
invariant-loop-number l = too_long_from 0 l.components l.images ≡ too_long_from l.number (drop l.number l.components) l.left
