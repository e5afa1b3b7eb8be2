use Rattle.std.proofs.Common.{◌≡◌, replicate, ◌∙◌, arith}
use Rattle.slot_queue.specs.Words.{line_of}
use Rattle.slot_queue.proofs.Steps.{starts_as, splits_as}
use Rattle.slot_queue.proofs.queue.SlotQueue.new.Goals as goal

pub vacant-requires : goal.vacant-requires
vacant-requires c =
    let asked = c.requires.slots in
    let words : c.as_slice.result.now ≡ replicate (line_of c.args.slots) 0 = c.as_slice.ensures.value ∙ c.in_ok-words.ensures.items_if_clones_equal (λ y e. e) in
    starts_as (record { slots = c.args.slots; kind = c.args.kind }) c.as_slice.result.now (omega arith) words

pub split_seat-other-requires : goal.split_seat-other-requires
split_seat-other-requires c =
    let asked = c.requires.slots in
    let made = c.in_ok-table.ensures in
    let len = c.as_slice.ensures.len in
    let items = c.in_ok-words.ensures.len in (
      made.2,
      omega arith,
      splits_as c.in_ok-table.table.shared.key c.in_ok-table.seat.id c.args.kind c.in_ok-table.seat.me made.4,
    )
