use Rattle.std.proofs.Common.{◌≡◌, None, [], length, map, ap, arith, rules}
use Rattle.std.proofs.lemmas.List.{length-map}
use Rattle.std.proofs.lemmas.Result.{err_from_is_err_and}
use Rattle.toml.specs.View.{view}
use Rattle.topology_file.specs.declared.key.Key.TheVariants as key
use Rattle.topology_file.specs.Fields.{elements_at}
use Rattle.topology_file.specs.Faults.{top_fault}
use Rattle.topology_file.specs.Refusals.{components_refusal, refusal}
use Rattle.topology_file.proofs.Validity.{valid_top}
use Rattle.topology_file.proofs.Accepted.{component_refused}
use Rattle.topology_file.proofs.Answering.{refuses_all}
use Rattle.topology_file.proofs.reader.parts.Goals as goal

pub components-requires : goal.components-requires
components-requires c =
    let d = view c.args.document.now in
    let none : top_fault d ≡ None = search rules in
    let same : length (map view c.elements_at.result.now) ≡ length (elements_at d key.Components) = ap length c.elements_at.ensures in
    omega (arith, length-map c.elements_at.result.now view, same, (valid_top d none).few_components)

pub returns-in_err-components : goal.returns-in_err-components
returns-in_err-components c =
    let d = view c.args.document.now in
    let p = err_from_is_err_and c.from_residual.result c.from_residual.ensures.1 in
    let none : top_fault d ≡ None = search rules in
    let told = rw c.elements_at.ensures at c.in_err-components.ensures in
    rw (p.1, p.2) (refuses_all (components_refusal 0 [] (elements_at d key.Components)) (refusal d) c.in_err-components.field-0.0 (component_refused d none) told)

pub returns : goal.returns
returns c =
    let d = view c.args.document.now in
    let none : top_fault d ≡ None = search rules in
    let told = rw c.elements_at.ensures at c.in_ok-components.ensures in
    record { top = none; read = told.0; spelled = told.1; kinds_are = search rules }
