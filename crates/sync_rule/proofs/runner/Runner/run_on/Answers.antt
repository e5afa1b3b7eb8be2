use Rattle.std.proofs.Common.{◌∙◌, arith, sym}
use Rattle.sync_rule.specs.declared.next.Next.TheVariants.{Tick}
use Rattle.sync_rule.specs.Events.EventsRan.{none_ran}
use Rattle.sync_rule.proofs.Ran.{ran_more}
use Rattle.sync_rule.proofs.Calm.{still_calm, ticks_on}
use Rattle.sync_rule.proofs.runner.Runner.run_on.Goals as goal

pub ticks-init : goal.ticks-init
ticks-init g c = record { ran = none_ran; within = omega arith; enabled = c.requires.enabled; calm = c.requires.calm }

pub tick-requires-clause-ready : goal.tick-requires-clause-ready
tick-requires-clause-ready g c = c.requires.ready.after c.ticks.ran c.ticks.self c.ticks.invariant.ran

pub returns-then-sent : goal.returns-then-sent
returns-then-sent g c = record {
  ran = ran_more g.V.Device.behaviour c.ticks.invariant.ran (Tick c.ticks.at) c.ticks.invariant.enabled c.in_ok-sent.ensures.after;
  some = omega arith;
  within = omega (arith, c.ticks-test.true);
}

pub returns-in_default : goal.returns-in_default
returns-in_default g c = record {
  ran = ran_more g.V.Device.behaviour c.ticks.invariant.ran (Tick c.ticks.at) c.ticks.invariant.enabled c.in_ok-sent.ensures.after;
  some = omega arith;
  within = omega (arith, c.ticks-test.true);
}

pub ticks-preserved : goal.ticks-preserved
ticks-preserved g c =
    let b = g.V.Device.behaviour in
    let inv = c.ticks.invariant in
    let after = c.in_ok-sent.ensures.after in
    let silent = c.in_ok-sent.ensures.silent c.if-sent.false in
    record {
      ran = ran_more b inv.ran (Tick c.ticks.at) inv.enabled after;
      within = omega (arith, c.ticks-test.true);
      enabled = ticks_on b c.ticks.self c.tick.new.self c.ticks.at c.args.calm inv.calm after silent inv.enabled c.in-Some.due (sym c.due.ensures ∙ c.in-Some.ensures.0) c.in-Some.ensures.1;
      calm = still_calm b c.ticks.self c.tick.new.self c.ticks.at c.args.calm inv.calm after silent;
    }
