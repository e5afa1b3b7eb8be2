use Rattle.std.proofs.Common.{◌≡◌, ◌<◌, ◌∙◌, refl, ap, arith, subst, Some, length}
use Rattle.std.specs.Prelude.{if◌then◌else◌, slice_get}
use Rattle.std.specs.Vec.{with_item}
use Rattle.std.proofs.lemmas.Option.{slice_get_read}
use Rattle.std.proofs.lemmas.Result.{on_ok_weaker}
use Rattle.cs_base.specs.Plan.{same_end}
use Rattle.global_model.specs.Inboxes.{port_of, end_at}
use Rattle.global_model.specs.PortMarks.{AreMarked}
use Rattle.global_model.proofs.Nested.{found_in_view, updated_in_view, put_is, component_within}
use Rattle.global_model.proofs.PortMarks.{marked_on, as_many_set}
use Rattle.global_model.proofs.inboxes.Inboxes.push.Goals as goal

pub invariant_of-self : goal.invariant_of-self
invariant_of-self c =
    let lists = c.args.self.now in
    let vectors = c.self.inside.components.items in
    let masks = c.self.inside.filled.items in
    let ports = c.index_mut-2.result.now in
    let marks = subst (AreMarked masks) c.self.view_is c.self.invariant in
    let within : c.args.component < length masks = (let there = component_within lists (end_at c.args.component c.args.port) c.requires in let many = marks.as_many in omega arith) in
    let there : slice_get masks c.args.component ≡ Some c.index.result.now = slice_get_read masks (length masks) c.args.component c.index.result.now refl within c.index.ensures in
    let updated = updated_in_view lists vectors ports c.args.component c.args.port c.index_mut-3.result.now c.self.view_is c.requires c.index_mut-2.ensures.value c.index_mut-3.ensures.value (with_item ports c.args.port c.push.new.self) c.push.new.self refl in
    marked_on masks lists _ c.args.component c.args.port c.index.result.now c.marked.result c.push.new.self marks there c.marked.ensures.others (λ small unset. absurd (let set = c.marked.ensures.own small refl in omega (arith, set, unset))) (as_many_set lists vectors c.args.component (with_item ports c.args.port c.push.new.self) c.self.view_is) updated

pub returns : goal.returns
returns c = on_ok_weaker c.push.result (λ pushed e.
    let lists = c.args.self.now in
    let vectors = c.self.inside.components.items in
    let ports = c.index_mut-2.result.now in
    let queue = c.index_mut-3.result.now in
    let end = end_at c.args.component c.args.port in
    let found = found_in_view lists vectors ports c.args.component c.args.port queue c.self.view_is c.requires c.index_mut-2.ensures.value c.index_mut-3.ensures.value in
    updated_in_view lists vectors ports c.args.component c.args.port queue c.self.view_is c.requires c.index_mut-2.ensures.value c.index_mut-3.ensures.value (with_item ports c.args.port c.push.new.self) c.push.new.self refl e
    ∙ ap (λ now. if same_end end e then Some now else port_of lists e) pushed
    ∙ put_is (port_of lists) end queue c.args.message e found) c.push.ensures
