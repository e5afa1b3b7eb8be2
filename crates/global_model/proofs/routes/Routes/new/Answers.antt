use Rattle.std.proofs.Common.{arith, ◌+◌, ◌<◌, length, refl, map, subst, sym, ap, ◌∙◌}
use Rattle.std.proofs.lemmas.Option.{slice_get_read}
use Rattle.std.proofs.lemmas.List.{length_push}
use Rattle.global_model.specs.Inboxes.{port_of}
use Rattle.global_model.proofs.Nested.{rows_more, component_within}
use Rattle.global_model.specs.Routes.{route_from}
use Rattle.global_model.proofs.routes.Routes.new.Goals as goal

pub loop-component-preserved : goal.loop-component-preserved
loop-component-preserved c =
    let rows = c.loop-component.components.items in
    let row = c.in_ok-routes_out_of.field-0 in
    let kinds = c.args.kinds.now in
    let ports = c.index-kinds-component.result in
    let is = c.in_ok-push.ensures.items in
    let got = slice_get_read kinds (length kinds) c.loop-component.component ports refl c.loop-component-test.true c.index-kinds-component.is in
    (ap length is ∙ length_push rows row ∙ ap (λ n. n + 1) c.loop-component.invariant.0, λ e lt there. ap (λ rs. port_of (map (λ v. v.items) rs) e) is ∙ rows_more (route_from c.args.links.now) kinds ports rows row c.loop-component.component c.loop-component.invariant.0 got (λ p below. c.in_ok-routes_out_of.ensures p (subst (λ n. p < n) (sym c.len.ensures) below)) c.loop-component.invariant.1 e lt there)

pub returns : goal.returns
returns c = λ e there. c.loop-component.invariant.1 e (let within : e.component < length c.args.kinds.now = component_within c.args.kinds.now e there in let over = c.loop-component-test.false in omega arith) there
