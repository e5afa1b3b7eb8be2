use Rattle.std.proofs.Common.{◌≡◌, ◌≤◌, Some, sym, ◌∙◌, subst, refl, arith, length}
use Rattle.std.specs.Prelude.{slice_get}
use Rattle.std.proofs.lemmas.Option.{slice_get_read}
use Rattle.std.proofs.lemmas.Bool.{false≢true}
use Rattle.cs_base.specs.Plan.{PortsInOneLink}
use Rattle.cs_base.proofs.Plans.{one_more_component, ports_of_component, component_within}
use Rattle.cs_base.proofs.plan.in_one_link.Goals as goal

pub returns-then-not-ports_in_one_link : goal.returns-then-not-ports_in_one_link
returns-then-not-ports_in_one_link c =
    let i = c.loop-component.component in
    let at : slice_get c.args.kinds.now i ≡ Some c.index-kinds-component.result = slice_get_read c.args.kinds.now _ i _ refl (omega arith) c.index-kinds-component.is in
    (λ no. absurd (false≢true no), λ all. sym c.if-not-ports_in_one_link.true ∙ c.ports_in_one_link.ensures.1 (subst (λ n. PortsInOneLink c.args.links.now i n) (sym c.len.ensures) (ports_of_component c.args.kinds.now c.args.links.now i _ at all)))

pub loop-component-preserved : goal.loop-component-preserved
loop-component-preserved c =
    let i = c.loop-component.component in
    let at : slice_get c.args.kinds.now i ≡ Some c.index-kinds-component.result = slice_get_read c.args.kinds.now _ i _ refl (omega arith) c.index-kinds-component.is in
    let here : PortsInOneLink c.args.links.now i c.len.result = c.ports_in_one_link.ensures.0 c.if-not-ports_in_one_link.false in
    one_more_component c.args.kinds.now c.args.links.now i _ at c.loop-component.invariant (subst (λ n. PortsInOneLink c.args.links.now i n) c.len.ensures here)

pub returns : goal.returns
returns c =
    let all_passed : length c.args.kinds.now ≤ c.loop-component.component = c.loop-component-test.false in
    (λ _ end there. c.loop-component.invariant end (omega (arith, component_within c.args.kinds.now end there)) there, λ _. refl)
