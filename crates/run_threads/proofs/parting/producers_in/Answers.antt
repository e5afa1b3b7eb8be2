use Rattle.std.proofs.Common.{◌≤◌, ◌+◌, length, refl, ap, ◌∙◌, sym, subst, length-append}
use Rattle.slot_queue.specs.declared.ends.TxEnd.{TxEnd}
use Rattle.run_threads.proofs.Parted.{never_empty, seating_more}
use Rattle.run_threads.proofs.parting.producers_in.Goals as goal

pub unreachable-requires : goal.unreachable-requires
unreachable-requires c = never_empty (λ (end : TxEnd). end.seat) c.args.slots.items c.slots.left c.pop.new.self c.in-Some.slot c.slots.producers.items c.slots.invariant.seating c.in-Some.ensures.last c.requires.filled c.in_default-slot.is

pub slots-preserved : goal.slots-preserved
slots-preserved c = record {
  seating = seating_more (λ (end : TxEnd). end.seat) c.args.slots.items c.slots.left c.pop.new.self c.in-Some.slot c.slots.producers.items c.slots.invariant.seating c.in-Some.ensures.last c.in-Some-slot.end _ _ c.in-Some-slot.is refl c.push_reserved.ensures.items;
  sides_so_far = c.push_reserved.ensures.len ∙ ap (λ n. n + 1) c.slots.invariant.sides_so_far ∙ sym (ap length c.push_reserved.ensures.items ∙ length-append c.slots.producers.items _);
  for_sides = subst (λ n. length c.args.slots.items ≤ n) (sym c.push_reserved.ensures.capacity) c.slots.invariant.for_sides;
}
