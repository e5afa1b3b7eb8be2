use Rattle.std.proofs.Common.{◌≡◌, ◌<◌, ◌∙◌, refl, ap, arith, subst, Some, length}
use Rattle.std.specs.Prelude.{if◌then◌else◌, slice_get}
use Rattle.std.specs.Vec.{with_item}
use Rattle.std.proofs.lemmas.Option.{slice_get_read}
use Rattle.cs_base.specs.Plan.{same_end}
use Rattle.global_model.specs.Inboxes.{port_of, end_at}
use Rattle.global_model.proofs.Nested.{found_in_view, updated_in_view, with_itself, IfSome_at, component_within}
use Rattle.global_model.specs.PortMarks.{AreMarked}
use Rattle.global_model.proofs.PortMarks.{marked_on, marks_kept, as_many_set, empty_unmarked}
use Rattle.global_model.proofs.inboxes.Inboxes.take_at.Goals as goal

pub returns-clause-first : goal.returns-clause-first
returns-clause-first c =
    let lists = c.args.self.now in
    let vectors = c.self.inside.components.items in
    let ports = c.index_mut.result.now in
    let queue = c.index_mut-inbox.result.now in
    let found = found_in_view lists vectors ports c.args.component c.args.port queue c.self.view_is c.requires c.index_mut.ensures.value c.index_mut-inbox.ensures.value in
    let updated = updated_in_view lists vectors ports c.args.component c.args.port queue c.self.view_is c.requires c.index_mut.ensures.value c.index_mut-inbox.ensures.value (with_item ports c.args.port c.take_at.new.self) c.take_at.new.self refl in
    (c.take_at.new.self, found ∙ ap Some c.in-Some.ensures.first, updated)

pub returns-in_default-clause-none : goal.returns-in_default-clause-none
returns-in_default-clause-none c =
    let lists = c.args.self.now in
    let vectors = c.self.inside.components.items in
    let ports = c.index_mut.result.now in
    let queue = c.index_mut-inbox.result.now in
    let found = found_in_view lists vectors ports c.args.component c.args.port queue c.self.view_is c.requires c.index_mut.ensures.value c.index_mut-inbox.ensures.value in
    let updated = updated_in_view lists vectors ports c.args.component c.args.port queue c.self.view_is c.requires c.index_mut.ensures.value c.index_mut-inbox.ensures.value (with_item ports c.args.port c.take_at.new.self) c.take_at.new.self refl in
    let end = end_at c.args.component c.args.port in
    λ e. updated e ∙ ap (λ now. if same_end end e then Some now else port_of lists e) c.in_default.ensures.none ∙ with_itself (port_of lists) end queue e found

pub returns-in_default-clause-starts_off : goal.returns-in_default-clause-starts_off
returns-in_default-clause-starts_off c =
    let found = found_in_view c.args.self.now c.self.inside.components.items c.index_mut.result.now c.args.component c.args.port c.index_mut-inbox.result.now c.self.view_is c.requires c.index_mut.ensures.value c.index_mut-inbox.ensures.value in
    IfSome_at _ _ _ found c.in_default.ensures.starts_off

pub invariant_of-self : goal.invariant_of-self
invariant_of-self c =
    let lists = c.args.self.now in
    let vectors = c.self.inside.components.items in
    let ports = c.index_mut.result.now in
    let queue = c.index_mut-inbox.result.now in
    let found = found_in_view lists vectors ports c.args.component c.args.port queue c.self.view_is c.requires c.index_mut.ensures.value c.index_mut-inbox.ensures.value in
    let updated = updated_in_view lists vectors ports c.args.component c.args.port queue c.self.view_is c.requires c.index_mut.ensures.value c.index_mut-inbox.ensures.value (with_item ports c.args.port c.take_at.new.self) c.take_at.new.self refl in
    let end = end_at c.args.component c.args.port in
    let masks = c.self.inside.filled.items in
    let marks = subst (AreMarked masks) c.self.view_is c.self.invariant in
    marks_kept masks lists _ marks (as_many_set lists vectors c.args.component (with_item ports c.args.port c.take_at.new.self) c.self.view_is) (λ e. updated e ∙ ap (λ now. if same_end end e then Some now else port_of lists e) c.in_default.ensures.none ∙ with_itself (port_of lists) end queue e found)

pub index-requires : goal.index-requires
index-requires c =
    let there = component_within c.args.self.now (end_at c.args.component c.args.port) c.requires in
    let marks = subst (AreMarked c.self.inside.filled.items) c.self.view_is c.self.invariant in
    let many = marks.as_many in
    omega (arith, there, many)

pub index_mut-requires-2 : goal.index_mut-requires-2
index_mut-requires-2 c =
    let there = component_within c.args.self.now (end_at c.args.component c.args.port) c.requires in
    let marks = subst (AreMarked c.self.inside.filled.items) c.self.view_is c.self.invariant in
    let many = marks.as_many in
    omega (arith, there, many)

pub invariant_of-self-2 : goal.invariant_of-self-2
invariant_of-self-2 c =
    let lists = c.args.self.now in
    let vectors = c.self.inside.components.items in
    let masks = c.self.inside.filled.items in
    let ports = c.index_mut.result.now in
    let marks = subst (AreMarked masks) c.self.view_is c.self.invariant in
    let within : c.args.component < length masks = (let there = component_within lists (end_at c.args.component c.args.port) c.requires in let many = marks.as_many in omega arith) in
    let there : slice_get masks c.args.component ≡ Some c.index.result.now = slice_get_read masks (length masks) c.args.component c.index.result.now refl within c.index.ensures in
    let updated = updated_in_view lists vectors ports c.args.component c.args.port c.index_mut-inbox.result.now c.self.view_is c.requires c.index_mut.ensures.value c.index_mut-inbox.ensures.value (with_item ports c.args.port c.take_at.new.self) c.take_at.new.self refl in
    marked_on masks lists _ c.args.component c.args.port c.index.result.now c.marked.result c.take_at.new.self marks there c.marked.ensures.others (λ small unset. empty_unmarked c.is_empty-waits.result _ c.take_at.new.self (λ waits. c.marked.ensures.own small waits) c.is_empty-waits.ensures.0 unset) (as_many_set lists vectors c.args.component (with_item ports c.args.port c.take_at.new.self) c.self.view_is) updated
