use Rattle.std.proofs.Common.{◌≡◌, ◌+◌, ◌%◌, ◌<◌, ℕ, [], length, vec_len, vec_capacity, Vec, Global, ap, sym, ◌∙◌, refl, subst, arith}
use Rattle.std.specs.Mem.Slots.{slots_items, slots_filled}
use mathlib.Core.Option.{some}
use lib.ListN.{get_elem?}
use Rattle.sb_message.specs.declared.message.Msg.{Msg}
use Rattle.slot_queue.proofs.Gathering.{Gathered, none_gathered, next_gathered, one_more, no_more, all_free, all_gathered}
use Rattle.slot_queue.proofs.closing.gather.Goals as goal
use Rattle.slot_queue.proofs.closing.gather.Goals.{in-Some, in-None}

pub loop-k-init : goal.loop-k-init
loop-k-init c =
    let within = c.requires.places in
    let asked = c.requires.slots in
    let start : Gathered c.args.first c.args.slots 0 (slots_items c.args.closed.slots) (slots_filled c.args.closed.slots) [] =
    none_gathered c.args.first c.args.slots (slots_items c.args.closed.slots) (slots_filled c.args.closed.slots) (λ p less. asked.1 p (omega arith) (omega (arith, less, asked.0))) (omega arith) in (
      refl,
      asked.0,
      omega (arith, c.args.list.ok, ap (λ l. length l) c.requires.room.0),
      c.requires.room.1,
      subst (λ l. Gathered c.args.first c.args.slots 0 (slots_items c.args.closed.slots) (slots_filled c.args.closed.slots) l) (sym c.requires.room.0) start,
    )

pub loop-k-preserved : goal.loop-k-preserved
loop-k-preserved c =
    let within = c.requires.places in
    let asked = c.requires.slots in
    let kept = c.loop-k.invariant in
    let less = c.loop-k-test.true in
    let others = c.take.ensures.others in
    let found : get_elem? (slots_items c.args.closed.slots) ((c.args.first + c.loop-k.k) % c.args.slots) ≡ some c.take.result =
    ap (λ l. get_elem? l ((c.args.first + c.loop-k.k) % c.args.slots)) (sym kept.0) ∙ c.take.ensures.value in
    elim c.match-take.branch [
      | in-Some w ↦ (
        others.0 ∙ kept.0,
        others.2 ∙ kept.1,
        omega (arith, ap (λ (v : Vec Msg Global). vec_len v) w.list-is, w.push_reserved.ensures.len, kept.2),
        omega (arith, ap (λ (v : Vec Msg Global). vec_capacity v) w.list-is, w.push_reserved.ensures.capacity, kept.3),
        subst (λ f. Gathered c.args.first c.args.slots (c.loop-k.k + 1) (slots_items c.args.closed.slots) f c.match-take.list.items) (sym others.1)
            (next_gathered c.args.first c.args.slots c.loop-k.k (slots_items c.args.closed.slots) (slots_filled c.loop-k.closed.slots) c.loop-k.list.items c.match-take.list.items less kept.4
            (λ waiting holds so. ap (λ (v : Vec Msg Global). v.items) w.list-is ∙ w.push_reserved.ensures.items
            ∙ one_more c.args.first c.args.slots c.loop-k.k (slots_items c.args.closed.slots) c.loop-k.list.items w.in-Some.m less (found ∙ ap some w.in-Some.is) waiting holds so)),
      )
      | in-None w ↦ (
        others.0 ∙ kept.0,
        others.2 ∙ kept.1,
        omega (arith, ap (λ (v : Vec Msg Global). vec_len v) w.list-is, kept.2),
        omega (arith, ap (λ (v : Vec Msg Global). vec_capacity v) w.list-is, kept.3),
        subst (λ f. Gathered c.args.first c.args.slots (c.loop-k.k + 1) (slots_items c.args.closed.slots) f c.match-take.list.items) (sym others.1)
            (next_gathered c.args.first c.args.slots c.loop-k.k (slots_items c.args.closed.slots) (slots_filled c.loop-k.closed.slots) c.loop-k.list.items c.match-take.list.items less kept.4
            (λ waiting holds so. ap (λ (v : Vec Msg Global). v.items) w.list-is
            ∙ no_more c.args.first c.args.slots c.loop-k.k (slots_items c.args.closed.slots) c.loop-k.list.items less (found ∙ ap some w.in-None.is) waiting holds so)),
      )
    ]

pub take-requires : goal.take-requires
take-requires c =
    let within = c.requires.places in
    let asked = c.requires.slots in
    let kept = c.loop-k.invariant in
    let less = c.loop-k-test.true in
    let place : (c.args.first + c.loop-k.k) % c.args.slots < c.args.slots = omega arith in
    (omega arith, kept.4.left c.loop-k.k (omega arith) less)

pub free-requires : goal.free-requires
free-requires c =
    let within = c.requires.places in
    let asked = c.requires.slots in
    let kept = c.loop-k.invariant in
    let end : c.loop-k.k ≡ c.args.slots = omega (arith, c.loop-k.auto.k-end, c.loop-k-test.false) in
    let all : Gathered c.args.first c.args.slots c.args.slots (slots_items c.args.closed.slots) (slots_filled c.loop-k.closed.slots) c.loop-k.list.items =
    subst (λ (n : ℕ). Gathered c.args.first c.args.slots n (slots_items c.args.closed.slots) (slots_filled c.loop-k.closed.slots) c.loop-k.list.items) end kept.4 in
    λ p less. all_free c.args.first c.args.slots (slots_items c.args.closed.slots) (slots_filled c.loop-k.closed.slots) c.loop-k.list.items within.0 all p (omega (arith, less, kept.1))

pub returns : goal.returns
returns c =
    let kept = c.loop-k.invariant in
    let end : c.loop-k.k ≡ c.args.slots = omega (arith, c.loop-k.auto.k-end, c.loop-k-test.false) in
    let all : Gathered c.args.first c.args.slots c.args.slots (slots_items c.args.closed.slots) (slots_filled c.loop-k.closed.slots) c.loop-k.list.items =
    subst (λ (n : ℕ). Gathered c.args.first c.args.slots n (slots_items c.args.closed.slots) (slots_filled c.loop-k.closed.slots) c.loop-k.list.items) end kept.4 in
    λ waiting holds. all_gathered c.args.first c.args.slots (slots_items c.args.closed.slots) (slots_filled c.loop-k.closed.slots) c.loop-k.list.items all waiting holds
