use Rattle.std.proofs.Common.{◌≡◌, ◌++◌, drop, None}
use Rattle.std.specs.Prelude.{All}
use Rattle.device_set.specs.Images.{too_long_from}
use Rattle.device_set.specs.Starts.{starts_of}
use Rattle.device_set.proofs.Starting.{IsStarted}
use Rattle.device_set.proofs.starts.start_all.Given as goal

abbrev pub invariant-loop-component : goal.invariant-loop-component
invariant-loop-component l = record {
  started : starts_of l.components l.images ≡ l.devices.items ++ starts_of (drop l.component-index l.components) l.left;
  at_start : All IsStarted l.devices.items;
  fit : too_long_from l.component-index (drop l.component-index l.components) l.left ≡ None;
}
