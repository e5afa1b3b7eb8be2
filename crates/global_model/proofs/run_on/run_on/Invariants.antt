use Rattle.std.proofs.Common.{slice_set, ◌≡◌, ◌+◌, ◌-◌, ◌≤◌, ◌<◌, ◌^◌, length, []}
use Rattle.global_model.specs.Inboxes.{IsSoonest}
use Rattle.global_model.specs.RunOn.{WouldStand, OthersFrom}
use Rattle.global_model.specs.Step.{late_of}
use Rattle.global_model.specs.Tallied.{AreTallied}
use Rattle.global_model.specs.Turn.{inputs_of}
use Rattle.global_model.specs.UnderWay.{System}
use Rattle.global_model.proofs.run_on.run_on.Given as goal

abbrev pub invariant-ticks : goal.invariant-ticks
invariant-ticks g l = record {
  stands : (system : System g.row.V.Denot) → WouldStand g.V.Device.behaviour g.V.Device.settled system l.routes l.fn.from l.component l.fn.components.items l.initial.inboxes l.initial.agenda l.fn.first → l.fn.until ≤ system.end → WouldStand g.V.Device.behaviour g.V.Device.settled system l.routes l.last l.component (slice_set l.fn.components.items l.component l.here) l.inboxes l.agenda l.next;
  tallied : (system : System g.row.V.Denot) → WouldStand g.V.Device.behaviour g.V.Device.settled system l.routes l.fn.from l.component l.fn.components.items l.initial.inboxes l.initial.agenda l.fn.first → l.fn.until ≤ system.end → AreTallied g.V.Device.behaviour system l.fn.from (l.component + 1) l.initial.tallies → AreTallied g.V.Device.behaviour system l.last (l.component + 1) l.tallies;
  within : l.component < length l.fn.components.items;
  soonest : IsSoonest (late_of (g.V.Device.behaviour.due l.here.device)) (length (g.V.Device.behaviour.ports l.here.device)) (inputs_of l.inboxes l.component) l.next;
  ports : l.ports ≡ length (g.V.Device.behaviour.ports l.here.device);
  waits : IsSoonest (10 ^ 15) l.ports (inputs_of l.inboxes l.component) l.waiting;
  others : OthersFrom l.limit l.component l.agenda;
  later : l.fn.from ≤ l.last;
  in_time : l.last < l.fn.until;
  nothing_sent : l.done.sends ≡ [];
  nothing_logged : l.done.lines ≡ [];
}

abbrev pub decreases-ticks : goal.decreases-ticks
decreases-ticks g l = l.limit - l.next
