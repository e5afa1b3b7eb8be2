use Rattle.std.proofs.Common.{◌≡◌, ◌∙◌, ap, subst, arith, length, Some}
use Rattle.std.proofs.lemmas.Option.{slice_get-get_or, slice_get_within}
use Rattle.run_threads.specs.Seats.{TakenSoFar}
use Rattle.run_threads.proofs.SeatsTaken.{is_there, taken_more, not_none}
use Rattle.run_threads.proofs.seats.take_at.Goals as goal

pub take_slot-requires : goal.take_slot-requires
take_slot-requires g c =
    let there = is_there c.args.slots.now c.args.places.now c.requires c.loop-place.place-index c.loop-place.slots c.loop-place.taken.items c.loop-place.invariant _ (slice_get-get_or c.args.places.now c.loop-place.place-index 0 c.loop-place-test.true) in
    slice_get_within c.loop-place.slots _ (Some there.0) there.1

pub unreachable-requires : goal.unreachable-requires
unreachable-requires g c =
    let there = is_there c.args.slots.now c.args.places.now c.requires c.loop-place.place-index c.loop-place.slots c.loop-place.taken.items c.loop-place.invariant _ (slice_get-get_or c.args.places.now c.loop-place.place-index 0 c.loop-place-test.true) in
    not_none c.loop-place.slots _ there.0 c.take_slot.result there.1 c.take_slot.ensures.taken c.in_default.is

pub loop-place-preserved : goal.loop-place-preserved
loop-place-preserved g c = taken_more c.args.slots.now c.args.places.now c.requires c.loop-place.place-index c.loop-place.slots c.loop-place.taken.items c.loop-place.invariant _ (slice_get-get_or c.args.places.now c.loop-place.place-index 0 c.loop-place-test.true) c.in-Some.item (c.take_slot.ensures.taken ∙ ap Some c.in-Some.is) _ _ c.take_slot.ensures.left c.in_ok-push.ensures.items

pub returns : goal.returns
returns g c = subst (λ n. TakenSoFar n c.args.slots.now c.args.places.now c.loop-place.slots c.loop-place.taken.items) (let all : c.loop-place.place-index ≡ length c.args.places.now = omega arith in all) c.loop-place.invariant
