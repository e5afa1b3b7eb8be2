use Rattle.std.proofs.Common.{arith, ◌<◌, ◌≤◌, ◌+◌, sym, subst, refl}
use Rattle.global_model.specs.Agenda.{IsNext}
use Rattle.global_model.proofs.Sending.{the_component, ready}
use Rattle.global_model.proofs.AfterStep.{next_place}
use Rattle.global_model.proofs.ComesTo.{comes_to_time}
use Rattle.global_model.proofs.RunOn.{steps_on, nearer_on, placed}
use Rattle.global_model.proofs.StartAndEnd.{none_left, late_left, not_le, is_not_less, few_turns}
use Rattle.global_model.specs.Tallied.{AreTallied}
use Rattle.global_model.proofs.Tallied.{tallied_until, tallied_next}
use Rattle.global_model.proofs.global_run.run_until.Goals as goal

pub returns-then-le-clause-comes : goal.returns-then-le-clause-comes
returns-then-le-clause-comes g c = λ system start le. comes_to_time (c.moments.invariant.stands system start le) c.args.until c.moments.invariant.early c.moments.invariant.ended le (late_left c.args.until c.in-Some.moment c.moments.agenda (record { there = c.in-Some.ensures.there; first = c.in-Some.ensures.first }) (is_not_less c.args.until c.in-Some.moment.at c.if-le.ensures))

pub returns-clause-comes : goal.returns-clause-comes
returns-clause-comes g c = λ system start le. comes_to_time (c.moments.invariant.stands system start le) c.args.until c.moments.invariant.early c.moments.invariant.ended le (none_left c.args.until c.moments.agenda c.in_default.ensures.none)

pub returns-then-le-clause-counted : goal.returns-then-le-clause-counted
returns-then-le-clause-counted g c = λ system start le counted. tallied_until (c.moments.invariant.stands system start le) c.moments.tallies (c.moments.invariant.tallied system start le counted) c.args.until c.moments.invariant.early c.moments.invariant.ended (late_left c.args.until c.in-Some.moment c.moments.agenda (record { there = c.in-Some.ensures.there; first = c.in-Some.ensures.first }) (is_not_less c.args.until c.in-Some.moment.at c.if-le.ensures))

pub returns-clause-counted : goal.returns-clause-counted
returns-clause-counted g c = λ system start le counted. tallied_until (c.moments.invariant.stands system start le) c.moments.tallies (c.moments.invariant.tallied system start le counted) c.args.until c.moments.invariant.early c.moments.invariant.ended (none_left c.args.until c.moments.agenda c.in_default.ensures.none)

pub step-requires-clause-ready : goal.step-requires-clause-ready
step-requires-clause-ready g c =
    let next : IsNext c.in-Some.moment c.moments.agenda = record { there = c.in-Some.ensures.there; first = c.in-Some.ensures.first } in
    let under_way = c.moments.invariant.stands c.requires.may_run.0 c.requires.may_run.1 c.requires.may_run.2 in
    let component = the_component under_way next in
    (component.0, component.1, ready under_way next component.0 component.1)

pub go_on-requires-clause-stands : goal.go_on-requires-clause-stands
go_on-requires-clause-stands g c =
    let next : IsNext c.in-Some.moment c.moments.agenda = record { there = c.in-Some.ensures.there; first = c.in-Some.ensures.first } in
    let under_way = c.moments.invariant.stands c.requires.may_run.0 c.requires.may_run.1 c.requires.may_run.2 in
    let before : c.in-Some.moment.at < c.args.until = not_le c.args.until c.in-Some.moment.at c.if-le.ensures in
    let component = the_component under_way next in
    let end : c.args.until ≤ c.requires.may_run.0.end = c.requires.may_run.2 in
    (c.requires.may_run.0, next_place under_way next component.0 component.1 (c.in_ok-next.ensures.stepped component.0 component.1) refl (omega (arith, before, end)), end)

pub go_on-requires-clause-goes_on : goal.go_on-requires-clause-goes_on
go_on-requires-clause-goes_on g c =
    let next : IsNext c.in-Some.moment c.moments.agenda = record { there = c.in-Some.ensures.there; first = c.in-Some.ensures.first } in
    let under_way = c.moments.invariant.stands c.requires.may_run.0 c.requires.may_run.1 c.requires.may_run.2 in
    let component = the_component under_way next in
    steps_on component.1 (c.in_ok-next.ensures.stepped component.0 component.1)

pub go_on-requires-clause-before : goal.go_on-requires-clause-before
go_on-requires-clause-before g c = not_le c.args.until c.in-Some.moment.at c.if-le.ensures

pub set-requires : goal.set-requires
set-requires g c = (let short = c.in_ok-stood.ensures.short in omega (arith, short))

pub overflow_add-behind : goal.overflow_add-behind
overflow_add-behind g c =
    let next : IsNext c.in-Some.moment c.moments.agenda = record { there = c.in-Some.ensures.there; first = c.in-Some.ensures.first } in
    let few : c.in-Some.moment.component < 64 = few_turns (c.moments.invariant.stands c.requires.may_run.0 c.requires.may_run.1 c.requires.may_run.2) next in
    omega (arith, few)

pub moments-smaller : goal.moments-smaller
moments-smaller g c =
    let next : IsNext c.in-Some.moment c.moments.agenda = record { there = c.in-Some.ensures.there; first = c.in-Some.ensures.first } in
    nearer_on (c.moments.invariant.stands c.requires.may_run.0 c.requires.may_run.1 c.requires.may_run.2) next c.args.until _ c.picoseconds-time-in-Some.result c.picoseconds-time-in-Some.ensures c.in_ok-stood.ensures.later c.in_ok-stood.ensures.in_time

pub moments-preserved : goal.moments-preserved
moments-preserved g c =
    let next : IsNext c.in-Some.moment c.moments.agenda = record { there = c.in-Some.ensures.there; first = c.in-Some.ensures.first } in
    let under_way = c.moments.invariant.stands c.requires.may_run.0 c.requires.may_run.1 c.requires.may_run.2 in
    let before : c.in-Some.moment.at < c.args.until = not_le c.args.until c.in-Some.moment.at c.if-le.ensures in
    let component = the_component under_way next in
    let time = c.picoseconds-time-in-Some.ensures in
    let in_time = c.in_ok-stood.ensures.in_time in
    record {
      stands = λ system start le. placed c.in-Some.moment.component c.go_on.new.agenda c.in_ok-stood.stood.next (c.in_ok-stood.ensures.comes system (next_place (c.moments.invariant.stands system start le) next component.0 component.1 (c.in_ok-next.ensures.stepped component.0 component.1) refl (omega (arith, before, le))) le) c.picoseconds-time-in-Some.result c.set.new.self time c.set.ensures;
      tallied = λ system start le counted. (let before_step = c.moments.invariant.stands system start le in let stepped = c.in_ok-next.ensures.stepped component.0 component.1 in subst (λ u. AreTallied g.V.Device.behaviour system u (c.in-Some.moment.component + 1) c.go_on.new.tallies) (sym time) (c.in_ok-stood.ensures.counted system (next_place before_step next component.0 component.1 stepped refl (omega (arith, before, le))) le (tallied_next before_step c.moments.tallies (c.moments.invariant.tallied system start le counted) next component.0 component.1 stepped refl c.step.new.tallies (c.in_ok-next.ensures.counted component.0 component.1))));
      early = omega (arith, in_time, time);
      ended = λ e. absurd (omega (arith, in_time, time, e));
      nothing_sent = c.in_ok-stood.ensures.all_sent;
      nothing_logged = c.in_ok-stood.ensures.all_logged;
    }
