use Rattle.std.proofs.Common.{Some, None, sym, ◌∙◌, arith, ◌≤◌, ◌-◌}
use Rattle.sync_rule.specs.Events.EventsRan.{none_ran}
use Rattle.sync_rule.proofs.Looked.{front_enabled}
use Rattle.sync_rule.proofs.Ran.{ran_on, throughout_on}
use Rattle.sync_rule.proofs.runner.Runner.events.Goals as goal

pub events-init : goal.events-init
events-init g c = record { ran = none_ran; within = omega arith }

pub go_on-requires-clause-ready : goal.go_on-requires-clause-ready
go_on-requires-clause-ready g c = throughout_on g.V.Device.behaviour g.V.Device.settled c.requires.ready c.events.invariant.ran

pub go_on-requires-clause-enabled : goal.go_on-requires-clause-enabled
go_on-requires-clause-enabled g c = front_enabled g.V.Device.behaviour c.events.self c.front-front.result c.front-front.ensures.front (Some c.in-Some.next) (sym c.in-Some.is ∙ c.enabled.ensures)

pub returns-in_default : goal.returns-in_default
returns-in_default g c = record {
  ran = c.events.invariant.ran;
  within = c.events.invariant.within;
  stopped = λ _. front_enabled g.V.Device.behaviour c.events.self c.front-front.result c.front-front.ensures.front None (sym c.in_default.is ∙ c.enabled.ensures);
}

pub events-preserved : goal.events-preserved
events-preserved g c = record {
  ran = ran_on g.V.Device.behaviour c.events.invariant.ran c.in_ok-ran.ensures.ran;
  within = let more : c.in_ok-ran.field-0 ≤ c.args.most - c.events.ran = c.in_ok-ran.ensures.within in let so_far : c.events.ran ≤ c.args.most = c.events.invariant.within in omega (arith, more, so_far);
}
