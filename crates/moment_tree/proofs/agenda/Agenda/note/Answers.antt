use Rattle.std.proofs.Common.{arith, ◌≡◌, ◌<◌, subst, sym, ap, ◌∙◌, map, drop, ◌+◌, Some, None, get_or}
use Rattle.std.specs.Vec.{with_items}
use Rattle.std.specs.Prelude.{slice_set, slice_index_or}
use Rattle.std.proofs.lemmas.List.{with_items_is, get_or_default}
use Rattle.moment_tree.specs.Dues.{sooner}
use Rattle.moment_tree.specs.Keys.{due_of}
use Rattle.moment_tree.proofs.Views.{note_view}
use Rattle.moment_tree.proofs.agenda.Agenda.note.Goals as goal

pub returns-then-key-index : goal.returns-then-key-index
returns-then-key-index c =
    let n = c.self.inside.components in
    let some = c.self.invariant.some in
    let sized = c.self.invariant.sized in
    let within = c.if-index-self.true in
    let read = get_or_default c.self.inside.keys.items (c.self.inside.components + c.args.component) c.index.result.now 0 (omega arith) in
    let less : c.key_of-key.result < get_or c.self.inside.keys.items (c.self.inside.components + c.args.component) 0 = omega (arith, read, c.if-key-index.true, c.index.ensures) in
    let is : (with_items c.self.inside.keys c.place.new.keys).items ≡ c.place.new.keys = with_items_is c.self.inside.keys c.place.new.keys (c.place.auto.keys ∙ c.as_mut_slice.ensures.len) in
    subst (λ xs. map due_of (drop n xs) ≡ slice_set c.args.self.now c.args.component (Some (sooner c.args.at (slice_index_or c.args.self.now c.args.component None)))) (sym is) (note_view n c.self.inside.keys.items c.place.new.keys c.self.invariant c.args.self.now c.self.view_is c.args.component c.key_of-key.result c.if-index-self.true c.key_of-key.ensures.own (c.place.ensures.placed ∙ ap (λ xs. slice_set (drop n xs) c.args.component c.key_of-key.result) c.as_mut_slice.ensures.value) c.args.at c.key_of-key.ensures.due less)
