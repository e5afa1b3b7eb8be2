use Rattle.std.proofs.Common.{◌≡◌, subst, sym, ap, ◌∙◌, map, drop}
use Rattle.std.specs.Vec.{with_items}
use Rattle.std.specs.Prelude.{slice_set}
use Rattle.std.proofs.lemmas.List.{with_items_is}
use Rattle.moment_tree.specs.Keys.{due_of}
use Rattle.moment_tree.proofs.Views.{set_view}
use Rattle.moment_tree.proofs.agenda.Agenda.set.Goals as goal

pub returns-then-index-self : goal.returns-then-index-self
returns-then-index-self c =
    let n = c.self.inside.components in
    let is : (with_items c.self.inside.keys c.place.new.keys).items ≡ c.place.new.keys = with_items_is c.self.inside.keys c.place.new.keys (c.place.auto.keys ∙ c.as_mut_slice.ensures.len) in
    subst (λ xs. map due_of (drop n xs) ≡ slice_set c.args.self.now c.args.component c.args.due) (sym is) (set_view n c.self.inside.keys.items c.place.new.keys c.self.invariant c.args.self.now c.self.view_is c.args.component c.key_of-key.result c.if-index-self.true c.key_of-key.ensures.own (c.place.ensures.placed ∙ ap (λ xs. slice_set (drop n xs) c.args.component c.key_of-key.result) c.as_mut_slice.ensures.value) c.args.due c.key_of-key.ensures.due)
