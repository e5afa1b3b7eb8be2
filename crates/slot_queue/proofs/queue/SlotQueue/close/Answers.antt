use Rattle.std.proofs.Common.{◌≡◌, ◌+◌, ◌-◌, ◌%◌, List, [], ◌++◌, length, vec_len, vec_capacity, ap, sym, ◌∙◌, subst, arith}
use Rattle.std.specs.Mem.Slots.{slots_items}
use Rattle.atomic_table.specs.Seated.{TableId}
use Rattle.atomic_table.specs.Table.{Final, Seen}
use Rattle.cs_base.specs.declared.port_kind.PortKind.TheVariants.{Eth}
use Rattle.sb_message.specs.declared.message.Msg.{Msg}
use Rattle.slot_queue.specs.Rule.{Stands}
use Rattle.slot_queue.specs.Views.{owning}
use Rattle.slot_queue.specs.Ends.{Named, Sender, Receiver}
use Rattle.slot_queue.specs.Plays.{Seated}
use Rattle.slot_queue.specs.Closing.{Remains, sent_by, received_by}
use Rattle.slot_queue.proofs.Steps.{joins_as, splits_memory}
use Rattle.slot_queue.proofs.Leaving.{waits}
use Rattle.slot_queue.proofs.queue.SlotQueue.close.Goals as goal

pub join_seat-requires : goal.join_seat-requires
join_seat-requires c =
    let same_p : c.producer.inside.seat.table_id ≡ c.self.inside.table.shared.table_id = ap (λ (s : Sender). s.queue) c.producer.view_is ∙ c.requires.seats.0 ∙ sym (ap (λ (n : Named). n.name) c.self.view_is) in
    let same_c : c.consumer.inside.seat.table_id ≡ c.self.inside.table.shared.table_id = ap (λ (r : Receiver). r.queue) c.consumer.view_is ∙ c.requires.seats.1 ∙ sym (ap (λ (n : Named). n.name) c.self.view_is) in
    let p = c.producer.inside.seat.me.0 in
    let r = c.consumer.inside.seat.me.0 in (
      same_p,
      same_c,
      ap (λ (x : Seated). x.1) c.consumer.invariant.0,
      omega arith,
      joins_as c.self.inside.table.shared.key c.producer.inside.seat.id p.kind p.sent p.misses c.consumer.inside.seat.id r.kind r.received r.misses (owning Eth [] [] 0) c.producer.inside.seat.me c.consumer.inside.seat.me c.producer.invariant.0
          c.consumer.invariant.0,
    )

pub split_seat-memory-requires : goal.split_seat-memory-requires
split_seat-memory-requires c =
    let same_p : c.producer.inside.seat.table_id ≡ c.self.inside.table.shared.table_id = ap (λ (s : Sender). s.queue) c.producer.view_is ∙ c.requires.seats.0 ∙ sym (ap (λ (n : Named). n.name) c.self.view_is) in
    (c.join_seat.ensures.0 ∙ same_p, omega arith, splits_memory c.self.inside.table.shared.key c.join_seat.new.seat.id c.join_seat.new.seat.me.0)

pub gather-list-requires : goal.gather-list-requires
gather-list-requires c =
    let same_c : c.consumer.inside.seat.table_id ≡ c.self.inside.table.shared.table_id = ap (λ (r : Receiver). r.queue) c.consumer.view_is ∙ c.requires.seats.1 ∙ sym (ap (λ (n : Named). n.name) c.self.view_is) in
    let p = c.producer.inside.seat.me.0 in
    let r = c.consumer.inside.seat.me.0 in
    let place : c.consumer.inside.next ≡ length r.received % c.self.inside.slots = c.consumer.invariant.1 ∙ ap (λ (t : TableId). length r.received % t.slots) same_c ∙ ap (λ k. length r.received % k) c.self.invariant.3 in
    let both : c.split_seat-memory.new.seat.me.0 ≡ owning p.kind p.sent r.received (p.misses + r.misses) = ap (λ (x : Seated). x.0) c.split_seat-memory.ensures.2 ∙ ap (λ (x : Seated). x.0) c.join_seat.ensures.2 in
    let left = waits c.self.inside.table.shared.key (slots_items c.close_with.result.words) (slots_items c.close_with.result.slots) c.split_seat-memory.new.seat.id p.kind p.sent r.received (p.misses + r.misses) c.consumer.inside.next c.self.inside.slots
    c.self.invariant.4 place
    (subst (λ v. Final (Seen (Stands c.self.inside.table.shared.key) c.split_seat-memory.new.seat.id v) (slots_items c.close_with.result.words) (slots_items c.close_with.result.slots)) both c.close_with.ensures.values.2) in
    let name : c.args.self.name.slots ≡ c.self.inside.slots = sym (ap (λ (n : Named). n.name.slots) c.self.view_is) ∙ c.self.invariant.3 in
    let spare : vec_capacity c.room.inside.list - vec_len c.room.inside.list ≡ c.args.room.spare = ap (λ (x : Remains). x.spare) c.room.view_is in
    let room = c.requires.room.1 in
    record {
      places = (omega (arith, place, c.self.invariant.0), c.self.invariant.1);
      slots = (c.close_with.ensures.counts.1 ∙ c.self.invariant.3, c.close_with.ensures.values.1);
      held = (left.waiting, left.holds);
      room = (ap (λ (x : Remains). x.messages) c.room.view_is ∙ c.requires.room.0, omega (arith, name, spare, room));
    }

pub returns : goal.returns
returns c =
    let same_c : c.consumer.inside.seat.table_id ≡ c.self.inside.table.shared.table_id = ap (λ (r : Receiver). r.queue) c.consumer.view_is ∙ c.requires.seats.1 ∙ sym (ap (λ (n : Named). n.name) c.self.view_is) in
    let p = c.producer.inside.seat.me.0 in
    let r = c.consumer.inside.seat.me.0 in
    let place : c.consumer.inside.next ≡ length r.received % c.self.inside.slots = c.consumer.invariant.1 ∙ ap (λ (t : TableId). length r.received % t.slots) same_c ∙ ap (λ k. length r.received % k) c.self.invariant.3 in
    let both : c.split_seat-memory.new.seat.me.0 ≡ owning p.kind p.sent r.received (p.misses + r.misses) = ap (λ (x : Seated). x.0) c.split_seat-memory.ensures.2 ∙ ap (λ (x : Seated). x.0) c.join_seat.ensures.2 in
    let left = waits c.self.inside.table.shared.key (slots_items c.close_with.result.words) (slots_items c.close_with.result.slots) c.split_seat-memory.new.seat.id p.kind p.sent r.received (p.misses + r.misses) c.consumer.inside.next c.self.inside.slots
    c.self.invariant.4 place
    (subst (λ v. Final (Seen (Stands c.self.inside.table.shared.key) c.split_seat-memory.new.seat.id v) (slots_items c.close_with.result.words) (slots_items c.close_with.result.slots)) both c.close_with.ensures.values.2) in
    let name : c.args.self.name.slots ≡ c.self.inside.slots = sym (ap (λ (n : Named). n.name.slots) c.self.view_is) ∙ c.self.invariant.3 in
    let items : c.gather-list.result.items ≡ left.waiting = c.gather-list.ensures left.waiting left.holds in
    let sent : sent_by c.into_badge.result.views ≡ p.sent = ap sent_by c.into_badge.ensures.2 ∙ ap (λ (x : Seated). x.0.sent) c.split_seat-memory.ensures.4 ∙ ap (λ (x : Seated). x.0.sent) c.join_seat.ensures.2 in
    let received : received_by c.into_badge.result.views ≡ r.received = ap received_by c.into_badge.ensures.2 ∙ ap (λ (x : Seated). x.0.received) c.split_seat-memory.ensures.4 ∙ ap (λ (x : Seated). x.0.received) c.join_seat.ensures.2 in
    record {
      lists = (sent ∙ ap (λ (s : Sender). s.sent) c.producer.view_is, received ∙ ap (λ (s : Receiver). s.received) c.consumer.view_is);
      rest = ap (λ l. l ++ c.gather-list.result.items) received ∙ ap (λ l. r.received ++ l) items ∙ left.between ∙ sym sent;
      within = omega (arith, ap (λ (l : List Msg). length l) items, left.holds.within, name);
    }
