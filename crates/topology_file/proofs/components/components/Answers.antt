use Rattle.std.proofs.Common.{◌≡◌, ◌<◌, [], length, map, get_or, arith}
use Rattle.std.proofs.lemmas.List.{length-map}
use Rattle.std.proofs.lemmas.Result.{err_from_is_err_and}
use Rattle.toml.specs.View.{view}
use Rattle.topology_file.specs.Refusals.{components_refusal}
use Rattle.topology_file.proofs.Elements.{get_or-map}
use Rattle.topology_file.proofs.Answering.{refuses_all, at_entry_none}
use Rattle.topology_file.proofs.ComponentsRead.{one_more_read, refused_here}
use Rattle.topology_file.proofs.components.components.Goals as goal

pub returns-in_err-component : goal.returns-in_err-component
returns-in_err-component c =
    let p = err_from_is_err_and c.from_residual.result c.from_residual.ensures.1 in
    let entries = map view c.args.entries.now in
    let count = c.loop-entry.entry-index in
    let d = view c.entry-item.result in
    let within : count < length entries = omega (arith, length-map c.args.entries.now view) in
    let this : d ≡ get_or entries count d = get_or-map view c.args.entries.now count c.entry-item.result c.entry-item.is in
    let told = rw c.as_slice.ensures at c.in_err-component.ensures in
    rw (p.1, p.2) (refuses_all _ (components_refusal 0 [] entries) c.in_err-component.field-0.0 (refused_here entries count c.loop-entry.components d within this c.loop-entry.invariant) told)

pub loop-entry-preserved : goal.loop-entry-preserved
loop-entry-preserved c =
    let entries = map view c.args.entries.now in
    let count = c.loop-entry.entry-index in
    let d = view c.entry-item.result in
    let within : count < length entries = omega (arith, length-map c.args.entries.now view) in
    let this : d ≡ get_or entries count d = get_or-map view c.args.entries.now count c.entry-item.result c.entry-item.is in
    let told = rw c.as_slice.ensures at c.in_ok-component.ensures in
    rw c.in_ok-push.ensures.ok (one_more_read entries count c.loop-entry.components d within this c.loop-entry.invariant c.in_ok-component.component (at_entry_none _ _ told.0) told.1)
