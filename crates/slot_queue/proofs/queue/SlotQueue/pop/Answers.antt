use Rattle.std.proofs.Common.{◌≡◌, ◌%◌, List, [], ◌∷◌, ◌++◌, length, ap, sym, ◌∙◌, arith}
use Rattle.std.specs.Prelude.{Some}
use Rattle.atomic_table.specs.Seated.{TableId}
use Rattle.sb_message.specs.declared.message.Msg.{Msg}
use Rattle.slot_queue.specs.Ends.{Named, Receiver}
use Rattle.slot_queue.specs.Words.{IsProducers}
use Rattle.slot_queue.specs.Plays.{Seated}
use Rattle.slot_queue.proofs.Turns.{message_as, receives_as, pop_opened, pop_holds, pop_emptied, pop_closed, consumer_rests, producers_word, next_place}
use Rattle.slot_queue.proofs.queue.SlotQueue.pop.Goals as goal

pub load-found-requires : goal.load-found-requires
load-found-requires c =
    let same : c.end.inside.seat.table_id ≡ c.self.inside.table.shared.table_id = ap (λ (s : Receiver). s.queue) c.end.view_is ∙ c.requires ∙ sym (ap (λ (n : Named). n.name) c.self.view_is) in
    let me = c.end.inside.seat.me in
    let place : c.end.inside.next ≡ length me.0.received % c.self.inside.table.shared.table_id.slots = c.end.invariant.1 ∙ ap (λ (t : TableId). length me.0.received % t.slots) same in (
      same,
      omega arith,
      message_as c.self.inside.table.shared.key c.self.inside.table.shared.table_id.slots c.end.inside.seat.id me.0.kind me.0.received me.0.misses c.end.inside.next me c.end.invariant.0 place,
    )

pub exchange-requires : goal.exchange-requires
exchange-requires c =
    let same : c.end.inside.seat.table_id ≡ c.self.inside.table.shared.table_id = ap (λ (s : Receiver). s.queue) c.end.view_is ∙ c.requires ∙ sym (ap (λ (n : Named). n.name) c.self.view_is) in
    let me = c.end.inside.seat.me in
    let finds = c.load-found.ensures.2.some c.if-found-lt-CONSUMER.false in
    let opened = pop_opened me c.load-found.new.seat.me me.0.kind me.0.received me.0.misses c.self.inside.table.shared.table_id.slots c.end.inside.next c.end.invariant.0 finds in
    (c.load-found.ensures.0 ∙ same, (Some finds.message, pop_holds c.load-found.new.seat.me me.0.kind me.0.received me.0.misses c.end.inside.next finds.message opened))

pub store-requires : goal.store-requires
store-requires c =
    let same : c.end.inside.seat.table_id ≡ c.self.inside.table.shared.table_id = ap (λ (s : Receiver). s.queue) c.end.view_is ∙ c.requires ∙ sym (ap (λ (n : Named). n.name) c.self.view_is) in
    let me = c.end.inside.seat.me in
    let place : c.end.inside.next ≡ length me.0.received % c.self.inside.table.shared.table_id.slots = c.end.invariant.1 ∙ ap (λ (t : TableId). length me.0.received % t.slots) same in
    let finds = c.load-found.ensures.2.some c.if-found-lt-CONSUMER.false in
    let opened = pop_opened me c.load-found.new.seat.me me.0.kind me.0.received me.0.misses c.self.inside.table.shared.table_id.slots c.end.inside.next c.end.invariant.0 finds in
    let emptied = pop_emptied c.load-found.new.seat.me c.exchange.new.seat.me me.0.kind me.0.received me.0.misses c.end.inside.next finds.message opened c.exchange.ensures.3 in
    let free : IsProducers c.word_of-word.result = producers_word c.ty.result c.word_of-word.result c.ty.ensures.small c.word_of-word.ensures in (
      c.exchange.ensures.0 ∙ c.load-found.ensures.0 ∙ same,
      omega arith,
      receives_as c.self.inside.table.shared.key c.self.inside.table.shared.table_id.slots c.exchange.new.seat.id me.0.kind me.0.received me.0.misses c.end.inside.next finds.message c.exchange.new.seat.me c.word_of-word.result emptied place free,
    )

pub invariant_of-end-2 : goal.invariant_of-end-2
invariant_of-end-2 c =
    let same : c.end.inside.seat.table_id ≡ c.self.inside.table.shared.table_id = ap (λ (s : Receiver). s.queue) c.end.view_is ∙ c.requires ∙ sym (ap (λ (n : Named). n.name) c.self.view_is) in
    let me = c.end.inside.seat.me in
    let finds = c.load-found.ensures.2.some c.if-found-lt-CONSUMER.false in
    let opened = pop_opened me c.load-found.new.seat.me me.0.kind me.0.received me.0.misses c.self.inside.table.shared.table_id.slots c.end.inside.next c.end.invariant.0 finds in
    let emptied = pop_emptied c.load-found.new.seat.me c.exchange.new.seat.me me.0.kind me.0.received me.0.misses c.end.inside.next finds.message opened c.exchange.ensures.3 in
    let closed = pop_closed c.exchange.new.seat.me c.store.new.seat.me me.0.kind me.0.received me.0.misses c.self.inside.table.shared.table_id.slots c.end.inside.next c.word_of-word.result finds.message emptied c.store.ensures.2 in
    let now : c.store.new.seat.table_id ≡ c.end.inside.seat.table_id = c.store.ensures.0 ∙ c.exchange.ensures.0 ∙ c.load-found.ensures.0 in (
      consumer_rests c.store.new.seat.me me.0.kind (me.0.received ++ finds.message ∷ []) me.0.misses closed,
      next_place me.0.received finds.message c.end.inside.next c.place_after-end-inside.result c.end.inside.seat.table_id.slots c.self.inside.slots c.end.invariant.1 (ap (λ (t : TableId). t.slots) same ∙ c.self.invariant.3) c.place_after-end-inside.ensures
          ∙ ap (λ (x : List Msg). length x % c.end.inside.seat.table_id.slots) (sym (ap (λ (x : Seated). x.0.received) closed))
          ∙ ap (λ (t : TableId). length c.store.new.seat.me.0.received % t.slots) (sym now),
    )
