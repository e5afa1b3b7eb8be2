use Rattle.std.proofs.Common.{◌≡◌, ◌%◌, List, [], ◌∷◌, ◌++◌, length, ap, sym, ◌∙◌, subst, arith}
use Rattle.std.specs.Prelude.{true}
use Rattle.atomic_table.specs.Seated.{TableId}
use Rattle.sb_message.specs.Spelling.{word_of}
use Rattle.sb_message.specs.declared.message.Msg.{Msg}
use Rattle.sb_message.specs.Stream.{IsStream}
use Rattle.slot_queue.specs.Ends.{Named, Sender}
use Rattle.slot_queue.specs.Words.{word_for}
use Rattle.slot_queue.specs.Plays.{Seated}
use Rattle.slot_queue.proofs.Turns.{room_as, sends_as, push_opened, push_filled, push_closed, producer_rests, next_place}
use Rattle.slot_queue.proofs.queue.SlotQueue.push.Goals as goal

pub load-found-requires : goal.load-found-requires
load-found-requires c =
    let same : c.end.inside.seat.table_id ≡ c.self.inside.table.shared.table_id = ap (λ (s : Sender). s.queue) c.end.view_is ∙ c.requires.queue ∙ sym (ap (λ (n : Named). n.name) c.self.view_is) in
    let place : c.end.inside.next ≡ length c.end.inside.seat.me.0.sent % c.self.inside.table.shared.table_id.slots = c.end.invariant.1 ∙ ap (λ (t : TableId). length c.end.inside.seat.me.0.sent % t.slots) same in (
      same,
      omega arith,
      room_as c.self.inside.table.shared.key c.self.inside.table.shared.table_id.slots c.end.inside.seat.id c.end.inside.seat.me.0.kind c.end.inside.seat.me.0.sent c.end.inside.seat.me.0.misses c.end.inside.next
          c.end.inside.seat.me c.end.invariant.0 place,
    )

pub store-requires : goal.store-requires
store-requires c =
    let same : c.end.inside.seat.table_id ≡ c.self.inside.table.shared.table_id = ap (λ (s : Sender). s.queue) c.end.view_is ∙ c.requires.queue ∙ sym (ap (λ (n : Named). n.name) c.self.view_is) in
    let place : c.end.inside.next ≡ length c.end.inside.seat.me.0.sent % c.self.inside.table.shared.table_id.slots = c.end.invariant.1 ∙ ap (λ (t : TableId). length c.end.inside.seat.me.0.sent % t.slots) same in
    let me = c.end.inside.seat.me in
    let opened = push_opened me c.load-found.new.seat.me me.0.kind me.0.sent me.0.misses c.self.inside.table.shared.table_id.slots c.end.inside.next c.load-found.result c.end.invariant.0 c.load-found.ensures.2 c.if-found-ge-CONSUMER.false in
    let filled = push_filled c.load-found.new.seat.me c.exchange-empty.new.seat.me me.0.kind me.0.sent me.0.misses c.end.inside.next c.args.m opened c.exchange-empty.ensures.3 in
    let word : c.word_of-word.result ≡ word_for c.args.m = c.word_of-word.ensures ∙ ap (λ t. word_of t true) c.ty.ensures.ty in
    let stream : IsStream me.0.kind (me.0.sent ++ c.args.m ∷ []) = subst (λ (s : Sender). IsStream s.kind (s.sent ++ c.args.m ∷ [])) (sym c.end.view_is) c.requires.stream in (
      c.exchange-empty.ensures.0 ∙ c.load-found.ensures.0 ∙ same,
      omega arith,
      sends_as c.self.inside.table.shared.key c.self.inside.table.shared.table_id.slots c.exchange-empty.new.seat.id me.0.kind me.0.sent me.0.misses c.end.inside.next c.args.m c.exchange-empty.new.seat.me c.word_of-word.result
          filled word place stream,
    )

pub invariant_of-end-2 : goal.invariant_of-end-2
invariant_of-end-2 c =
    let same : c.end.inside.seat.table_id ≡ c.self.inside.table.shared.table_id = ap (λ (s : Sender). s.queue) c.end.view_is ∙ c.requires.queue ∙ sym (ap (λ (n : Named). n.name) c.self.view_is) in
    let me = c.end.inside.seat.me in
    let opened = push_opened me c.load-found.new.seat.me me.0.kind me.0.sent me.0.misses c.self.inside.table.shared.table_id.slots c.end.inside.next c.load-found.result c.end.invariant.0 c.load-found.ensures.2 c.if-found-ge-CONSUMER.false in
    let filled = push_filled c.load-found.new.seat.me c.exchange-empty.new.seat.me me.0.kind me.0.sent me.0.misses c.end.inside.next c.args.m opened c.exchange-empty.ensures.3 in
    let closed = push_closed c.exchange-empty.new.seat.me c.store.new.seat.me me.0.kind me.0.sent me.0.misses c.self.inside.table.shared.table_id.slots c.end.inside.next c.word_of-word.result c.args.m filled c.store.ensures.2 in
    let now : c.store.new.seat.table_id ≡ c.end.inside.seat.table_id = c.store.ensures.0 ∙ c.exchange-empty.ensures.0 ∙ c.load-found.ensures.0 in (
      producer_rests c.store.new.seat.me me.0.kind (me.0.sent ++ c.args.m ∷ []) me.0.misses closed,
      next_place me.0.sent c.args.m c.end.inside.next c.place_after-end-inside.result c.end.inside.seat.table_id.slots c.self.inside.slots c.end.invariant.1 (ap (λ (t : TableId). t.slots) same ∙ c.self.invariant.3) c.place_after-end-inside.ensures
          ∙ ap (λ (x : List Msg). length x % c.end.inside.seat.table_id.slots) (sym (ap (λ (x : Seated). x.0.sent) closed))
          ∙ ap (λ (t : TableId). length c.store.new.seat.me.0.sent % t.slots) (sym now),
    )
