use Rattle.std.proofs.Common.{rules, ◌≤◌, ◌+◌, length, refl, ap, ◌∙◌, sym, subst, arith, length-append}
use Rattle.run_threads.proofs.Parted.{opening_starts, departures_here, arrivals_here, room_more, opening_more}
use Rattle.run_threads.proofs.parting.open_all.Goals as goal

pub parts-init : goal.parts-init
parts-init g c = record {
  opening = opening_starts c.args.parts.items c.from_vec-left.result c.args.runners.now.items c.args.senders.now c.args.receivers.now c.requires.none c.from_vec-left.ensures;
  slots_to_send = refl;
  slots_to_receive = refl;
  runners_so_far = search rules;
  for_runners = c.requires.room;
}

pub open-requires-clause-departures : goal.open-requires-clause-departures
open-requires-clause-departures g c = departures_here c.args.parts.items c.parts.left c.pop.new.self c.in-Some.part c.parts.runners.items c.parts.senders c.parts.receivers c.parts.invariant.opening c.in-Some.ensures.last (length c.args.senders.now) (length c.parts.senders) c.requires.departures c.parts.invariant.slots_to_send

pub open-requires-clause-arrivals : goal.open-requires-clause-arrivals
open-requires-clause-arrivals g c = arrivals_here c.args.parts.items c.parts.left c.pop.new.self c.in-Some.part c.parts.runners.items c.parts.senders c.parts.receivers c.parts.invariant.opening c.in-Some.ensures.last (length c.args.receivers.now) (length c.parts.receivers) c.requires.arrivals c.parts.invariant.slots_to_receive

pub push_reserved-requires : goal.push_reserved-requires
push_reserved-requires g c = omega (arith, room_more c.args.parts.items c.parts.left c.pop.new.self c.in-Some.part c.parts.runners.items c.parts.senders c.parts.receivers c.parts.invariant.opening c.in-Some.ensures.last, c.parts.invariant.runners_so_far, c.parts.invariant.for_runners)

pub parts-preserved : goal.parts-preserved
parts-preserved g c = record {
  opening = opening_more c.args.parts.items c.parts.left c.pop.new.self c.in-Some.part c.parts.runners.items c.parts.senders c.parts.receivers c.parts.invariant.opening c.in-Some.ensures.last (length c.args.senders.now) (length c.args.receivers.now) c.requires.departures c.requires.arrivals c.open.result c.push_reserved.new.self.items c.open.new.senders c.open.new.receivers c.open.ensures.runner c.push_reserved.ensures.items c.open.ensures.sending c.open.ensures.receiving;
  slots_to_send = c.open.ensures.sending.as_many ∙ c.parts.invariant.slots_to_send;
  slots_to_receive = c.open.ensures.receiving.as_many ∙ c.parts.invariant.slots_to_receive;
  runners_so_far = c.push_reserved.ensures.len ∙ ap (λ n. n + 1) c.parts.invariant.runners_so_far ∙ sym (ap length c.push_reserved.ensures.items ∙ length-append c.parts.runners.items _);
  for_runners = subst (λ n. length c.args.parts.items ≤ n) (sym c.push_reserved.ensures.capacity) c.parts.invariant.for_runners;
}
