use Rattle.std.proofs.Common.{rules, ◌≡◌, arith, ◌+◌, ◌<◌, length, refl, map, subst, sym, ap, ◌∙◌, []}
use Rattle.std.proofs.lemmas.Option.{slice_get_read}
use Rattle.std.proofs.lemmas.List.{length_push, length-map}
use Rattle.global_model.specs.Inboxes.{port_of}
use Rattle.global_model.proofs.Nested.{rows_more, component_within}
use Rattle.global_model.proofs.PortMarks.{all_marked}
use Rattle.global_model.proofs.inboxes.Inboxes.new.Goals as goal

pub loop-component-preserved : goal.loop-component-preserved
loop-component-preserved c =
    let rows = c.loop-component.components.items in
    let row = c.in_ok-empty_inboxes.field-0 in
    let kinds = c.args.kinds.now in
    let ports = c.index-kinds-component.result in
    let is = c.in_ok-push.ensures.items in
    let got = slice_get_read kinds (length kinds) c.loop-component._component ports refl c.loop-component-test.true c.index-kinds-component.is in
    (ap length is ∙ length_push rows row ∙ ap (λ n. n + 1) c.loop-component.invariant.0, λ e lt there. ap (λ rs. port_of (map (λ v. v.items) rs) e) is ∙ rows_more (λ _. []) kinds ports rows row c.loop-component._component c.loop-component.invariant.0 got (λ p below. c.in_ok-empty_inboxes.ensures p (subst (λ n. p < n) (sym c.len.ensures) below)) c.loop-component.invariant.1 e lt there)

pub returns : goal.returns
returns c = λ e there. c.loop-component.invariant.1 e (let within : e.component < length c.args.kinds.now = component_within c.args.kinds.now e there in let over = c.loop-component-test.false in omega arith) there

pub invariant_of-result : goal.invariant_of-result
invariant_of-result c =
    let many : length c.loop-component.components.items ≡ c.len-2.result = search rules in
    all_marked c.in_ok-filled.filled.items _ c.len-2.result (c.in_ok-filled.ensures.items_if_clones_equal (λ y same. same)) (length-map c.loop-component.components.items (λ v. v.items) ∙ many)
