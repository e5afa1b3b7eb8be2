use Rattle.std.proofs.Common.{◌-◌, ◌≤◌}
use Rattle.global_model.specs.Inboxes.{IsSoonest}
use Rattle.global_model.specs.Turn.{inputs_of}
use Rattle.global_model.proofs.soonest.soonest.Given as goal

abbrev pub invariant-filled : goal.invariant-filled
invariant-filled l = record {
  soonest : IsSoonest l.fn.late l.port (inputs_of l.inboxes l.component) l.next;
  within : l.port ≤ l.ports;
}

abbrev pub decreases-filled : goal.decreases-filled
decreases-filled l = l.ports - l.port
