use Rattle.std.proofs.Common.{rules, ◌≡◌, ◌+◌, ◌<◌, ◌≤◌, [], length, min, sym, subst, ap, ◌∙◌, arith, refl, Some}
use Rattle.device_api.specs.Behaviour.{SendsAndLines}
use Rattle.device_api.specs.declared.component.Component.{Component}
use Rattle.std.proofs.lemmas.Option.{slice_get_within}
use Rattle.global_model.specs.Inboxes.{end_at, IsSoonest}
use Rattle.global_model.specs.Turn.{inputs_of}
use Rattle.global_model.specs.RunOn.{WouldStand}
use Rattle.global_model.specs.Post.{events_along, note_all}
use Rattle.global_model.specs.Step.{late_of}
use Rattle.global_model.proofs.StepLaws.{same_read, routed_after, there_after}
use Rattle.global_model.proofs.RunOn.{ports_there, others_sooner, set_read, set_twice, goes_here, sooner_late, due_next, settled_next, later_than, ready_next, left, may_send, ports_after, ticks_on, tallied_on, silent_later, silent_on, silent_tallied, silent_further, lt_of, falls_on}
use Rattle.global_model.proofs.run_on.run_on.Goals as goal

pub soonest-waiting-requires : goal.soonest-waiting-requires
soonest-waiting-requires g c =
    let b = g.V.Device.behaviour in
    let goes = c.requires.goes_on in
    let same = same_read c.args.components.now.items c.args.component goes.component c.index_mut-here.result.now goes.there c.index_mut-here.ensures.value in
    λ p lt. ports_there c.args.component c.args.agenda.now c.args.first c.requires.stands.1 goes.component goes.there p (subst (λ n. p < n) (c.ports-ports.ensures ∙ ap (λ (x : Component _). length (b.ports x.device)) same) lt)

pub ticks-init : goal.ticks-init
ticks-init g c =
    let b = g.V.Device.behaviour in
    let goes = c.requires.goes_on in
    let same = same_read c.args.components.now.items c.args.component goes.component c.index_mut-here.result.now goes.there c.index_mut-here.ensures.value in
    let limit : c.first_of-limit.result ≡ min c.soonest-waiting.result c.others_from.result = c.first_of-limit.ensures in
    record {
      stands = λ system start le. subst (λ xs. WouldStand b g.V.Device.settled system c.args.routes.now c.args.from c.args.component xs c.args.inboxes.now c.args.agenda.now c.args.first) (sym (set_read c.args.components.now.items c.args.component c.index_mut-here.result.now c.index_mut-here.ensures.value)) start;
      tallied = λ system start le counted. counted;
      within = slice_get_within c.args.components.now.items c.args.component goes.component goes.there;
      soonest = subst (λ (x : Component _). IsSoonest (late_of (b.due x.device)) (length (b.ports x.device)) (inputs_of c.args.inboxes.now c.args.component) c.args.first) (sym same) goes.soonest;
      ports = c.ports-ports.ensures;
      waits = c.soonest-waiting.ensures;
      others = others_sooner c.first_of-limit.result c.others_from.result c.args.component c.args.agenda.now (omega (arith, limit)) c.others_from.ensures.others;
      later = omega arith;
      in_time = c.requires.before;
      nothing_sent = c.requires.nothing_sent;
      nothing_logged = c.requires.nothing_logged;
    }

pub tick_alone-requires-clause-due_now : goal.tick_alone-requires-clause-due_now
tick_alone-requires-clause-due_now g c =
    let b = g.V.Device.behaviour in
    let inv = c.ticks.invariant in
    let goes = goes_here b c.args.component c.args.components.now.items c.ticks.inboxes c.ticks.next c.ticks.here inv.within inv.soonest in
    let stands = inv.stands c.requires.stands.0 c.requires.stands.1 c.requires.stands.2 in
    let early : c.ticks.next < c.first_of-limit.result = lt_of c.ticks.next c.first_of-limit.result c.ticks-test.ensures in
    let limit : c.first_of-limit.result ≡ min c.soonest-waiting.result c.others_from.result = c.first_of-limit.ensures in
    let low : c.first_of-limit.result ≤ c.soonest-waiting.result = omega (arith, limit) in
    let same : c.ticks.here ≡ goes.component = refl in
    subst (λ (x : Component _). b.due x.device ≡ Some c.ticks.next) (sym same) (due_next c.ticks.agenda stands c.ports-ports.result c.first_of-limit.result c.soonest-waiting.result goes inv.ports inv.waits inv.others early low)

pub tick_alone-requires-clause-settled_then : goal.tick_alone-requires-clause-settled_then
tick_alone-requires-clause-settled_then g c =
    let b = g.V.Device.behaviour in
    let inv = c.ticks.invariant in
    let goes = goes_here b c.args.component c.args.components.now.items c.ticks.inboxes c.ticks.next c.ticks.here inv.within inv.soonest in
    let stands = inv.stands c.requires.stands.0 c.requires.stands.1 c.requires.stands.2 in
    let early : c.ticks.next < c.first_of-limit.result = lt_of c.ticks.next c.first_of-limit.result c.ticks-test.ensures in
    let limit : c.first_of-limit.result ≡ min c.soonest-waiting.result c.others_from.result = c.first_of-limit.ensures in
    let low : c.first_of-limit.result ≤ c.soonest-waiting.result = omega (arith, limit) in
    let same : c.ticks.here ≡ goes.component = refl in
    subst (λ (x : Component _). g.V.Device.settled x.device (c.ticks.next + 1)) (sym same) (settled_next c.ticks.agenda stands c.ports-ports.result c.first_of-limit.result c.soonest-waiting.result goes inv.ports inv.waits inv.others early low)

pub post-requires-clause-routed : goal.post-requires-clause-routed
post-requires-clause-routed g c =
    let b = g.V.Device.behaviour in
    let inv = c.ticks.invariant in
    let goes = goes_here b c.args.component c.args.components.now.items c.ticks.inboxes c.ticks.next c.ticks.here inv.within inv.soonest in
    let stands = inv.stands c.requires.stands.0 c.requires.stands.1 c.requires.stands.2 in
    let early : c.ticks.next < c.first_of-limit.result = lt_of c.ticks.next c.first_of-limit.result c.ticks-test.ensures in
    let limit : c.first_of-limit.result ≡ min c.soonest-waiting.result c.others_from.result = c.first_of-limit.ensures in
    let low : c.first_of-limit.result ≤ c.soonest-waiting.result = omega (arith, limit) in
    let same : c.ticks.here ≡ goes.component = refl in
    let sent : c.done.inside.sends ≡ (b.tick c.ticks.here.device c.ticks.next).sends = ap (λ (x : SendsAndLines). x.sends) c.done.view_is ∙ c.in_ok-due.ensures.sends in
    routed_after (b.ports goes.component.device) c.args.routes.now (c.ticks.next + 1) c.args.component (length (b.ports goes.component.device)) c.ticks.inboxes c.ticks.inboxes c.done.inside.sends (ready_next c.ticks.agenda stands c.ports-ports.result c.first_of-limit.result c.soonest-waiting.result goes inv.ports inv.waits inv.others early low).routed (left c.ticks.agenda stands c.ports-ports.result c.first_of-limit.result c.soonest-waiting.result goes inv.ports inv.waits inv.others early low) (may_send c.ticks.agenda stands c.ports-ports.result c.first_of-limit.result c.soonest-waiting.result goes inv.ports inv.waits inv.others early low c.ticks.here c.tick_alone.new.component c.done.inside.sends same c.in_ok-due.ensures.device c.in_ok-due.ensures.log sent)

pub soonest-next-requires : goal.soonest-next-requires
soonest-next-requires g c =
    let b = g.V.Device.behaviour in
    let inv = c.ticks.invariant in
    let goes = goes_here b c.args.component c.args.components.now.items c.ticks.inboxes c.ticks.next c.ticks.here inv.within inv.soonest in
    let stands = inv.stands c.requires.stands.0 c.requires.stands.1 c.requires.stands.2 in
    let early : c.ticks.next < c.first_of-limit.result = lt_of c.ticks.next c.first_of-limit.result c.ticks-test.ensures in
    let limit : c.first_of-limit.result ≡ min c.soonest-waiting.result c.others_from.result = c.first_of-limit.ensures in
    let low : c.first_of-limit.result ≤ c.soonest-waiting.result = omega (arith, limit) in
    let same : c.ticks.here ≡ goes.component = refl in
    λ p lt. there_after (c.ticks.next + 1) c.args.component (length (b.ports goes.component.device)) (events_along c.args.routes.now c.args.component c.ticks.next c.done.inside.sends) c.ticks.inboxes c.ticks.inboxes c.post.new.inboxes (end_at c.args.component p) ((ready_next c.ticks.agenda stands c.ports-ports.result c.first_of-limit.result c.soonest-waiting.result goes inv.ports inv.waits inv.others early low).waits.there p (subst (λ n. p < n) inv.ports lt)) (left c.ticks.agenda stands c.ports-ports.result c.first_of-limit.result c.soonest-waiting.result goes inv.ports inv.waits inv.others early low (end_at c.args.component p)) (c.in_ok-post.ensures.arrives (end_at c.args.component p))

pub returns-then-not-is_empty-clause-comes : goal.returns-then-not-is_empty-clause-comes
returns-then-not-is_empty-clause-comes g c =
    let b = g.V.Device.behaviour in
    let inv = c.ticks.invariant in
    let goes = goes_here b c.args.component c.args.components.now.items c.ticks.inboxes c.ticks.next c.ticks.here inv.within inv.soonest in
    let stands = inv.stands c.requires.stands.0 c.requires.stands.1 c.requires.stands.2 in
    let early : c.ticks.next < c.first_of-limit.result = lt_of c.ticks.next c.first_of-limit.result c.ticks-test.ensures in
    let limit : c.first_of-limit.result ≡ min c.soonest-waiting.result c.others_from.result = c.first_of-limit.ensures in
    let low : c.first_of-limit.result ≤ c.soonest-waiting.result = omega (arith, limit) in
    let same : c.ticks.here ≡ goes.component = refl in
    let sent : c.done.inside.sends ≡ (b.tick c.ticks.here.device c.ticks.next).sends = ap (λ (x : SendsAndLines). x.sends) c.done.view_is ∙ c.in_ok-due.ensures.sends in
    let ends : c.others_from.result ≤ c.args.until = c.others_from.ensures.ends in
    λ system start le. subst (λ xs. WouldStand b g.V.Device.settled system c.args.routes.now c.ticks.next c.args.component xs c.post.new.inboxes c.post.new.agenda c.soonest-next.result) (set_twice c.args.components.now.items c.args.component c.ticks.here c.tick_alone.new.component) (ticks_on c.ticks.agenda (inv.stands system start le) c.ports-ports.result c.first_of-limit.result c.soonest-waiting.result goes inv.ports inv.waits inv.others early low c.ticks.here c.tick_alone.new.component c.done.inside.sends same c.in_ok-due.ensures.device c.in_ok-due.ensures.log sent c.post.new.inboxes c.post.new.agenda c.late.result c.soonest-next.result c.in_ok-post.ensures.arrives (c.in_ok-post.ensures.noted ∙ ap (note_all (events_along c.args.routes.now c.args.component c.ticks.next c.done.inside.sends)) c.set.ensures) (c.late.ensures ∙ ap late_of c.in_ok-due.ensures.due) c.soonest-next.ensures c.post.new.agenda refl (omega (arith, early, limit, ends, le)))

pub returns-then-not-is_empty-clause-counted : goal.returns-then-not-is_empty-clause-counted
returns-then-not-is_empty-clause-counted g c =
    let b = g.V.Device.behaviour in
    let inv = c.ticks.invariant in
    let goes = goes_here b c.args.component c.args.components.now.items c.ticks.inboxes c.ticks.next c.ticks.here inv.within inv.soonest in
    let stands = inv.stands c.requires.stands.0 c.requires.stands.1 c.requires.stands.2 in
    let early : c.ticks.next < c.first_of-limit.result = lt_of c.ticks.next c.first_of-limit.result c.ticks-test.ensures in
    let limit : c.first_of-limit.result ≡ min c.soonest-waiting.result c.others_from.result = c.first_of-limit.ensures in
    let low : c.first_of-limit.result ≤ c.soonest-waiting.result = omega (arith, limit) in
    let same : c.ticks.here ≡ goes.component = refl in
    let sent : c.done.inside.sends ≡ (b.tick c.ticks.here.device c.ticks.next).sends = ap (λ (x : SendsAndLines). x.sends) c.done.view_is ∙ c.in_ok-due.ensures.sends in
    λ system start le counted. tallied_on c.ticks.agenda (inv.stands system start le) c.ports-ports.result c.first_of-limit.result c.soonest-waiting.result goes inv.ports inv.waits inv.others early low c.ticks.here c.tick_alone.new.component c.done.inside.sends same c.in_ok-due.ensures.device c.in_ok-due.ensures.log sent c.post.new.inboxes c.post.new.agenda c.late.result c.soonest-next.result c.in_ok-post.ensures.arrives (c.in_ok-post.ensures.noted ∙ ap (note_all (events_along c.args.routes.now c.args.component c.ticks.next c.done.inside.sends)) c.set.ensures) (c.late.ensures ∙ ap late_of c.in_ok-due.ensures.due) c.soonest-next.ensures c.post.new.agenda refl c.ticks.tallies c.post.new.tallies c.in_ok-post.ensures.counted (inv.tallied system start le counted)

pub returns-then-not-is_empty-clause-later : goal.returns-then-not-is_empty-clause-later
returns-then-not-is_empty-clause-later g c =
    let b = g.V.Device.behaviour in
    let inv = c.ticks.invariant in
    let goes = goes_here b c.args.component c.args.components.now.items c.ticks.inboxes c.ticks.next c.ticks.here inv.within inv.soonest in
    let stands = inv.stands c.requires.stands.0 c.requires.stands.1 c.requires.stands.2 in
    let early : c.ticks.next < c.first_of-limit.result = lt_of c.ticks.next c.first_of-limit.result c.ticks-test.ensures in
    let limit : c.first_of-limit.result ≡ min c.soonest-waiting.result c.others_from.result = c.first_of-limit.ensures in
    let low : c.first_of-limit.result ≤ c.soonest-waiting.result = omega (arith, limit) in
    let same : c.ticks.here ≡ goes.component = refl in
    let after : c.ticks.last + 1 ≤ c.ticks.next = later_than c.ticks.agenda stands c.ports-ports.result c.first_of-limit.result c.soonest-waiting.result goes inv.ports inv.waits inv.others early low in
    let before : c.args.from ≤ c.ticks.last = inv.later in
    omega (arith, after, before)

pub ticks-smaller : goal.ticks-smaller
ticks-smaller g c =
    let b = g.V.Device.behaviour in
    let inv = c.ticks.invariant in
    let goes = goes_here b c.args.component c.args.components.now.items c.ticks.inboxes c.ticks.next c.ticks.here inv.within inv.soonest in
    let stands = inv.stands c.requires.stands.0 c.requires.stands.1 c.requires.stands.2 in
    let early : c.ticks.next < c.first_of-limit.result = lt_of c.ticks.next c.first_of-limit.result c.ticks-test.ensures in
    let limit : c.first_of-limit.result ≡ min c.soonest-waiting.result c.others_from.result = c.first_of-limit.ensures in
    let low : c.first_of-limit.result ≤ c.soonest-waiting.result = omega (arith, limit) in
    let same : c.ticks.here ≡ goes.component = refl in
    let none : c.done.inside.sends ≡ [] = search rules in
    let silent : c.tick_alone.new.done.sends ≡ [] = sym (ap (λ (x : SendsAndLines). x.sends) c.done.view_is) ∙ none in
    falls_on c.first_of-limit.result c.ticks.next c.sooner-next.result early (silent_later c.ticks.agenda stands c.ports-ports.result c.first_of-limit.result c.soonest-waiting.result goes inv.ports inv.waits inv.others early low c.ticks.here c.tick_alone.new.component c.tick_alone.new.done.sends same c.in_ok-due.ensures.device c.in_ok-due.ensures.log c.in_ok-due.ensures.sends (late_of c.in_ok-due.due) c.sooner-next.result (ap late_of c.in_ok-due.ensures.due) (c.sooner-next.ensures ∙ sooner_late c.soonest-waiting.result c.in_ok-due.due inv.waits.at_most) silent)

pub ticks-preserved : goal.ticks-preserved
ticks-preserved g c =
    let b = g.V.Device.behaviour in
    let inv = c.ticks.invariant in
    let goes = goes_here b c.args.component c.args.components.now.items c.ticks.inboxes c.ticks.next c.ticks.here inv.within inv.soonest in
    let stands = inv.stands c.requires.stands.0 c.requires.stands.1 c.requires.stands.2 in
    let early : c.ticks.next < c.first_of-limit.result = lt_of c.ticks.next c.first_of-limit.result c.ticks-test.ensures in
    let limit : c.first_of-limit.result ≡ min c.soonest-waiting.result c.others_from.result = c.first_of-limit.ensures in
    let low : c.first_of-limit.result ≤ c.soonest-waiting.result = omega (arith, limit) in
    let same : c.ticks.here ≡ goes.component = refl in
    let none : c.done.inside.sends ≡ [] = search rules in
    let silent : c.tick_alone.new.done.sends ≡ [] = sym (ap (λ (x : SendsAndLines). x.sends) c.done.view_is) ∙ none in
    let ends : c.others_from.result ≤ c.args.until = c.others_from.ensures.ends in
    let after : c.ticks.last + 1 ≤ c.ticks.next = later_than c.ticks.agenda stands c.ports-ports.result c.first_of-limit.result c.soonest-waiting.result goes inv.ports inv.waits inv.others early low in
    let before : c.args.from ≤ c.ticks.last = inv.later in
    record {
      stands = λ system start le. subst (λ xs. WouldStand b g.V.Device.settled system c.args.routes.now c.ticks.next c.args.component xs c.ticks.inboxes c.ticks.agenda c.sooner-next.result) (set_twice c.args.components.now.items c.args.component c.ticks.here c.tick_alone.new.component) (silent_on c.ticks.agenda (inv.stands system start le) c.ports-ports.result c.first_of-limit.result c.soonest-waiting.result goes inv.ports inv.waits inv.others early low c.ticks.here c.tick_alone.new.component c.tick_alone.new.done.sends same c.in_ok-due.ensures.device c.in_ok-due.ensures.log c.in_ok-due.ensures.sends (late_of c.in_ok-due.due) c.sooner-next.result (ap late_of c.in_ok-due.ensures.due) (c.sooner-next.ensures ∙ sooner_late c.soonest-waiting.result c.in_ok-due.due inv.waits.at_most) silent (omega (arith, early, limit, ends, le)));
      tallied = λ system start le counted. silent_tallied c.ticks.agenda (inv.stands system start le) c.ports-ports.result c.first_of-limit.result c.soonest-waiting.result goes inv.ports inv.waits inv.others early low c.ticks.here c.tick_alone.new.component c.tick_alone.new.done.sends same c.in_ok-due.ensures.device c.in_ok-due.ensures.log c.in_ok-due.ensures.sends (late_of c.in_ok-due.due) c.sooner-next.result (ap late_of c.in_ok-due.ensures.due) (c.sooner-next.ensures ∙ sooner_late c.soonest-waiting.result c.in_ok-due.due inv.waits.at_most) silent c.ticks.tallies (inv.tallied system start le counted);
      within = inv.within;
      soonest = (silent_further c.ticks.agenda stands c.ports-ports.result c.first_of-limit.result c.soonest-waiting.result goes inv.ports inv.waits inv.others early low c.ticks.here c.tick_alone.new.component c.tick_alone.new.done.sends same c.in_ok-due.ensures.device c.in_ok-due.ensures.log c.in_ok-due.ensures.sends (late_of c.in_ok-due.due) c.sooner-next.result (ap late_of c.in_ok-due.ensures.due) (c.sooner-next.ensures ∙ sooner_late c.soonest-waiting.result c.in_ok-due.due inv.waits.at_most) silent).soonest;
      ports = ports_after c.ticks.agenda stands c.ports-ports.result c.first_of-limit.result c.soonest-waiting.result goes inv.ports inv.waits inv.others early low c.ticks.here c.tick_alone.new.component c.tick_alone.new.done.sends same c.in_ok-due.ensures.device c.in_ok-due.ensures.log c.in_ok-due.ensures.sends;
      waits = inv.waits;
      others = inv.others;
      later = omega (arith, after, before);
      in_time = omega (arith, early, limit, ends);
      nothing_sent = silent;
      nothing_logged = c.in_ok-due.ensures.all_logged;
    }
