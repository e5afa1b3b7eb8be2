use Rattle.std.proofs.Common.{◌≡◌, rules, refl, sym, ◌∙◌, subst}
use Rattle.std.specs.Vec.{with_items}
use Rattle.std.proofs.lemmas.List.{with_items_is, places}
use Rattle.proxy_members.specs.Differing.{AreInOrder}
use Rattle.run_threads.specs.Comparing.{EndsAgree}
use Rattle.run_threads.proofs.WholeRun.{Rounds, dismiss_fits, left_in_order, has_failed, has_ended, crew_kept}
use Rattle.run_threads.proofs.crew.run_mesh.Goals as goal

pub dismiss-requires : goal.dismiss-requires
dismiss-requires g c =
    let b = g.V.Device.behaviour in
    let settled = g.V.Device.settled in
    let out = g.O.WireOut.seen in
    let wire = g.I.WireIn.seen in
    let old = c.args.crew.now in
    let mid = c.run_all-ran.new.workers in
    let some = c.requires.built in
    let worked : Rounds b settled out wire old.workers.items mid = subst (λ ws. Rounds b settled out wire ws mid) c.as_mut_slice.ensures.value c.run_all-ran.ensures.worked in
    let items = with_items_is old.workers mid (search (rules, places)) in
    record { engaged = dismiss_fits b settled out wire c.ends_stay_engaged.ensures.components c.ends_stay_engaged.ensures.rounds c.rounds_of_components.ensures.fared c.whatever_comes_leaves_parts_seated.ensures c.a_crew_is_seated.ensures some.starts some.kinds some.links some.end some.queues old some.built mid worked c.as_mut_slice-2.result.now (c.as_mut_slice-2.ensures.value ∙ items) }

pub agree-requires : goal.agree-requires
agree-requires g c =
    let b = g.V.Device.behaviour in
    let settled = g.V.Device.settled in
    let out = g.O.WireOut.seen in
    let wire = g.I.WireIn.seen in
    let old = c.args.crew.now in
    let mid = c.run_all-ran.new.workers in
    let some = c.requires.built in
    let worked : Rounds b settled out wire old.workers.items mid = subst (λ ws. Rounds b settled out wire ws mid) c.as_mut_slice.ensures.value c.run_all-ran.ensures.worked in
    let items = with_items_is old.workers mid (search (rules, places)) in
    subst AreInOrder (sym c.as_slice.ensures.value) (left_in_order b settled out wire c.ends_stay_engaged.ensures.components c.ends_stay_engaged.ensures.rounds c.rounds_of_components.ensures.fared c.whatever_comes_leaves_parts_seated.ensures c.a_crew_is_seated.ensures some.starts some.kinds some.links some.end some.queues old some.built mid worked c.as_mut_slice-2.result.now (c.as_mut_slice-2.ensures.value ∙ items) c.dismiss.new.workers c.dismiss.new.left c.dismiss.ensures.dismissed)

pub returns-in-Ok : goal.returns-in-Ok
returns-in-Ok g c starts kinds links end queues is =
    let b = g.V.Device.behaviour in
    let settled = g.V.Device.settled in
    let out = g.O.WireOut.seen in
    let wire = g.I.WireIn.seen in
    let old = c.args.crew.now in
    let mid = c.run_all-ran.new.workers in
    let worked : Rounds b settled out wire old.workers.items mid = subst (λ ws. Rounds b settled out wire ws mid) c.as_mut_slice.ensures.value c.run_all-ran.ensures.worked in
    let items = with_items_is old.workers mid (search (rules, places)) in
    let after = with_items_is (with_items old.workers mid) c.dismiss.new.workers (search (rules, places)) in
    let crew = crew_kept b settled out wire c.ends_stay_engaged.ensures.components c.ends_stay_engaged.ensures.rounds c.rounds_of_components.ensures.fared c.whatever_comes_leaves_parts_seated.ensures c.a_crew_is_seated.ensures starts kinds links end queues old is mid worked c.rounds_keep_a_crew_standing.ensures c.rounds_of_components.ensures.worked c.rounds_of_components.ensures.sound c.in-Ok.ensures.sound in
    has_ended b settled out wire c.ends_stay_engaged.ensures.components c.ends_stay_engaged.ensures.rounds c.rounds_of_components.ensures.fared c.whatever_comes_leaves_parts_seated.ensures c.a_crew_is_seated.ensures starts kinds links end queues old is mid worked c.as_mut_slice-2.result.now (c.as_mut_slice-2.ensures.value ∙ items) c.dismiss.new.workers c.dismiss.new.left c.dismiss.ensures.dismissed _ after refl refl c.in-Ok.ensures.sound crew (c.rounds_of_components.ensures.ended_too mid c.in-Ok.ensures.ended) c.agree.result (subst (λ l. EndsAgree l c.agree.result) c.as_slice.ensures.value c.agree.ensures)

pub returns-in-Err : goal.returns-in-Err
returns-in-Err g c starts kinds links end queues is =
    let b = g.V.Device.behaviour in
    let settled = g.V.Device.settled in
    let out = g.O.WireOut.seen in
    let wire = g.I.WireIn.seen in
    let old = c.args.crew.now in
    let mid = c.run_all-ran.new.workers in
    let worked : Rounds b settled out wire old.workers.items mid = subst (λ ws. Rounds b settled out wire ws mid) c.as_mut_slice.ensures.value c.run_all-ran.ensures.worked in
    let items = with_items_is old.workers mid (search (rules, places)) in
    let after = with_items_is (with_items old.workers mid) c.dismiss.new.workers (search (rules, places)) in
    has_failed b settled out wire c.ends_stay_engaged.ensures.components c.ends_stay_engaged.ensures.rounds c.rounds_of_components.ensures.fared c.whatever_comes_leaves_parts_seated.ensures c.a_crew_is_seated.ensures starts kinds links end queues old is mid worked c.as_mut_slice-2.result.now (c.as_mut_slice-2.ensures.value ∙ items) c.dismiss.new.workers c.dismiss.new.left c.dismiss.ensures.dismissed _ after refl refl c.in-Err.fault c.in-Err.ensures.fault
