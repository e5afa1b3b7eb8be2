use Rattle.std.proofs.Common.{◌≡◌, ◌<◌, ◌∙◌, ap, arith, length}
use Rattle.std.proofs.lemmas.Option.{slice_get-get_or, slice_get_within}
use Rattle.slot_queue.specs.Ends.{Named}
use Rattle.slot_queue.specs.declared.ends.RxEnd.{RxEnd}
use Rattle.run_threads.proofs.SeatsTaken.{next_side, mapped_within, same_mapped}
use Rattle.run_threads.proofs.ends.rx_ends.Goals as goal

pub bounds-queues-places : goal.bounds-queues-places
bounds-queues-places c =
    let side = next_side (λ (end : RxEnd). end.seat) c.sides.ends.items c.sides.left c.pop.new.self c.in-Some.seat c.args.sides.items c.sides.invariant c.in-Some.ensures.last c.len.result (let is : c.len.result ≡ length c.sides.ends.items = omega arith in is) in
    let within : c.len.result < length c.args.places.now = (let in_sides = slice_get_within c.args.sides.items c.len.result c.in-Some.seat side in let many = c.requires.as_many in omega arith) in
    let its = c.requires.each c.len.result _ c.in-Some.seat (slice_get-get_or c.args.places.now c.len.result 0 within) side in
    mapped_within (λ queue. queue.now) c.args.queues.now _ its.0 its.1

pub invariant_of-push : goal.invariant_of-push
invariant_of-push c =
    let side = next_side (λ (end : RxEnd). end.seat) c.sides.ends.items c.sides.left c.pop.new.self c.in-Some.seat c.args.sides.items c.sides.invariant c.in-Some.ensures.last c.len.result (let is : c.len.result ≡ length c.sides.ends.items = omega arith in is) in
    let within : c.len.result < length c.args.places.now = (let in_sides = slice_get_within c.args.sides.items c.len.result c.in-Some.seat side in let many = c.requires.as_many in omega arith) in
    let its = c.requires.each c.len.result _ c.in-Some.seat (slice_get-get_or c.args.places.now c.len.result 0 within) side in
    record { ours = its.2 ∙ ap (λ (q : Named). q.name) (same_mapped (λ queue. queue.now) c.args.queues.now _ its.0 c.index-queues-places.result its.1 c.index-queues-places.is) }
