use Rattle.std.proofs.Common.{◌≡◌, ℕ, List, map, ap, sym, subst, ◌∙◌}
use Rattle.proxy_members.specs.Differing.{AllAgree}
use Rattle.run_threads.specs.Proxied.{AreAllNew}
use Rattle.slot_queue.specs.Ends.{Named}
use Rattle.thread_run.specs.Closing.{slots_of, HasRooms, AreSidesOf}
use Rattle.thread_run.proofs.Reserving.{slots_of_new}
use Rattle.thread_run.proofs.Telling.{sides, delivered, whole_rests, if_ok, if_err, untouched}
use Rattle.thread_run.proofs.Blaming.{ends_of, between, cause_of}
use Rattle.thread_run.proofs.whole.run_whole.Goals as goal

pub returns-in_err-rooms-clause-told : goal.returns-in_err-rooms-clause-told
returns-in_err-rooms-clause-told g c = untouched _ _ _ c.from_residual-in_err-rooms.ensures.0 c.from_residual-in_err-rooms.ensures.1

pub close_all-rests-requires-clause-rooms : goal.close_all-rests-requires-clause-rooms
close_all-rests-requires-clause-rooms g c =
    let links = c.args.wiring.now.links in
    subst (λ (slots : List ℕ). HasRooms slots c.in_ok-rooms.rooms) (ap slots_of c.as_slice.ensures ∙ slots_of_new c.args.wiring.now.kinds links c.in_ok-made.made.queues.items c.in_ok-made.ensures.queues_are) c.in_ok-rooms.ensures

pub close_all-rests-requires-clause-sides : goal.close_all-rests-requires-clause-sides
close_all-rests-requires-clause-sides g c =
    let new : AreAllNew c.args.wiring.now.kinds c.args.wiring.now.links c.as_slice-2.result.now c.in_ok-made.made.producers.items c.in_ok-made.made.consumers.items = subst (λ (l : List Named). AreAllNew c.args.wiring.now.kinds c.args.wiring.now.links l c.in_ok-made.made.producers.items c.in_ok-made.made.consumers.items) (sym c.as_slice-2.ensures.value) c.in_ok-made.ensures in
    let spent = c.in_ok-left.ensures.spent in
    subst (λ (l : List Named). AreSidesOf l c.in_ok-left.left.producers.items c.in_ok-left.left.consumers.items) c.as_slice-2.ensures.value (sides _ _ _ _ _ _ _ _ _ _ _ _ _ _ spent _ _ new c.sides_merge.ensures)

pub returns-clause-logs : goal.returns-clause-logs
returns-clause-logs g c =
    let new : AreAllNew c.args.wiring.now.kinds c.args.wiring.now.links c.as_slice-2.result.now c.in_ok-made.made.producers.items c.in_ok-made.made.consumers.items = subst (λ (l : List Named). AreAllNew c.args.wiring.now.kinds c.args.wiring.now.links l c.in_ok-made.made.producers.items c.in_ok-made.made.consumers.items) (sym c.as_slice-2.ensures.value) c.in_ok-made.ensures in
    let spent = c.in_ok-left.ensures.spent in
    if_ok c.in_ok-left.left.ended _ (λ done is. (spent.leaves done is (delivered _ _ _ _ _ _ _ _ _ _ _ _ _ _ spent _ _ new c.sides_merge.ensures _ c.close_all-rests.ensures c.what_was_pushed_was_popped.ensures (spent.agree done is))).logs_are)

pub returns-clause-counts : goal.returns-clause-counts
returns-clause-counts g c =
    let new : AreAllNew c.args.wiring.now.kinds c.args.wiring.now.links c.as_slice-2.result.now c.in_ok-made.made.producers.items c.in_ok-made.made.consumers.items = subst (λ (l : List Named). AreAllNew c.args.wiring.now.kinds c.args.wiring.now.links l c.in_ok-made.made.producers.items c.in_ok-made.made.consumers.items) (sym c.as_slice-2.ensures.value) c.in_ok-made.ensures in
    let spent = c.in_ok-left.ensures.spent in
    if_ok c.in_ok-left.left.ended _ (λ done is. (spent.leaves done is (delivered _ _ _ _ _ _ _ _ _ _ _ _ _ _ spent _ _ new c.sides_merge.ensures _ c.close_all-rests.ensures c.what_was_pushed_was_popped.ensures (spent.agree done is))).counts_are)

pub returns-clause-rests : goal.returns-clause-rests
returns-clause-rests g c =
    let new : AreAllNew c.args.wiring.now.kinds c.args.wiring.now.links c.as_slice-2.result.now c.in_ok-made.made.producers.items c.in_ok-made.made.consumers.items = subst (λ (l : List Named). AreAllNew c.args.wiring.now.kinds c.args.wiring.now.links l c.in_ok-made.made.producers.items c.in_ok-made.made.consumers.items) (sym c.as_slice-2.ensures.value) c.in_ok-made.ensures in
    let spent = c.in_ok-left.ensures.spent in
    if_ok c.in_ok-left.left.ended _ (λ done is. whole_rests _ _ _ _ _ _ _ _ _ _ _ _ _ _ spent _ _ new c.sides_merge.ensures _ c.close_all-rests.ensures c.what_was_pushed_was_popped.ensures (spent.agree done is) (spent.leaves done is (delivered _ _ _ _ _ _ _ _ _ _ _ _ _ _ spent _ _ new c.sides_merge.ensures _ c.close_all-rests.ensures c.what_was_pushed_was_popped.ensures (spent.agree done is))))

pub returns-clause-agree : goal.returns-clause-agree
returns-clause-agree g c =
    let new : AreAllNew c.args.wiring.now.kinds c.args.wiring.now.links c.as_slice-2.result.now c.in_ok-made.made.producers.items c.in_ok-made.made.consumers.items = subst (λ (l : List Named). AreAllNew c.args.wiring.now.kinds c.args.wiring.now.links l c.in_ok-made.made.producers.items c.in_ok-made.made.consumers.items) (sym c.as_slice-2.ensures.value) c.in_ok-made.ensures in
    let spent = c.in_ok-left.ensures.spent in
    if_ok c.in_ok-left.left.ended _ (λ done is. subst AllAgree (sym spent.ends_are) (spent.agree done is))

pub returns-clause-ends : goal.returns-clause-ends
returns-clause-ends g c =
    let new : AreAllNew c.args.wiring.now.kinds c.args.wiring.now.links c.as_slice-2.result.now c.in_ok-made.made.producers.items c.in_ok-made.made.consumers.items = subst (λ (l : List Named). AreAllNew c.args.wiring.now.kinds c.args.wiring.now.links l c.in_ok-made.made.producers.items c.in_ok-made.made.consumers.items) (sym c.as_slice-2.ensures.value) c.in_ok-made.ensures in
    let spent = c.in_ok-left.ensures.spent in
    ends_of _ _ _ _ _ _ _ _ _ _ _ _ _ _ spent _ _ new c.sides_merge.ensures _ c.close_all-rests.ensures c.what_was_pushed_was_popped.ensures c.requires.matches

pub returns-clause-between : goal.returns-clause-between
returns-clause-between g c =
    let new : AreAllNew c.args.wiring.now.kinds c.args.wiring.now.links c.as_slice-2.result.now c.in_ok-made.made.producers.items c.in_ok-made.made.consumers.items = subst (λ (l : List Named). AreAllNew c.args.wiring.now.kinds c.args.wiring.now.links l c.in_ok-made.made.producers.items c.in_ok-made.made.consumers.items) (sym c.as_slice-2.ensures.value) c.in_ok-made.ensures in
    let spent = c.in_ok-left.ensures.spent in
    between _ _ _ _ _ _ _ _ _ _ _ _ _ _ spent _ _ new c.sides_merge.ensures _ c.close_all-rests.ensures c.what_was_pushed_was_popped.ensures c.requires.matches

pub returns-clause-cause : goal.returns-clause-cause
returns-clause-cause g c =
    let new : AreAllNew c.args.wiring.now.kinds c.args.wiring.now.links c.as_slice-2.result.now c.in_ok-made.made.producers.items c.in_ok-made.made.consumers.items = subst (λ (l : List Named). AreAllNew c.args.wiring.now.kinds c.args.wiring.now.links l c.in_ok-made.made.producers.items c.in_ok-made.made.consumers.items) (sym c.as_slice-2.ensures.value) c.in_ok-made.ensures in
    let spent = c.in_ok-left.ensures.spent in
    if_err c.in_ok-left.left.ended _ (λ fault is. cause_of _ _ _ _ _ _ _ _ _ _ _ _ _ _ spent _ _ new c.sides_merge.ensures _ c.close_all-rests.ensures c.what_was_pushed_was_popped.ensures c.requires.matches fault is)
