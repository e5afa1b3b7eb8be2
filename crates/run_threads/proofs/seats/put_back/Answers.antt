use Rattle.std.proofs.Common.{rules, ◌<◌, length}
use Rattle.run_threads.proofs.PutBack.{putting_starts, place_in, slot_in, putting_more}
use Rattle.run_threads.proofs.seats.put_back.Goals as goal

pub items-init : goal.items-init
items-init g c = putting_starts c.args.items.items c.args.places.now c.args.slots.now c.requires _ c.from_vec-left.ensures

pub offset_bounds-places-len : goal.offset_bounds-places-len
offset_bounds-places-len g c = (let within : c.len.result < length c.args.places.now = place_in c.args.items.items c.args.places.now c.args.slots.now c.requires c.items.left c.pop.new.self c.in-Some.item c.items.slots c.items.invariant c.in-Some.ensures.last c.len.result c.len.ensures in search rules)

pub bounds-places-len : goal.bounds-places-len
bounds-places-len g c = place_in c.args.items.items c.args.places.now c.args.slots.now c.requires c.items.left c.pop.new.self c.in-Some.item c.items.slots c.items.invariant c.in-Some.ensures.last c.len.result c.len.ensures

pub put_slot-requires : goal.put_slot-requires
put_slot-requires g c = slot_in c.args.items.items c.args.places.now c.args.slots.now c.requires c.items.left c.pop.new.self c.in-Some.item c.items.slots c.items.invariant c.in-Some.ensures.last c.len.result c.len.ensures

pub items-preserved : goal.items-preserved
items-preserved g c = putting_more c.args.items.items c.args.places.now c.args.slots.now c.requires c.items.left c.pop.new.self c.in-Some.item c.items.slots c.items.invariant c.in-Some.ensures.last c.len.result c.len.ensures _ c.put_slot.ensures
