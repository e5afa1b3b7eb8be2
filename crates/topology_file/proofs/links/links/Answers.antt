use Rattle.std.proofs.Common.{◌≡◌, ◌<◌, [], length, map, get_or, arith}
use Rattle.std.proofs.lemmas.List.{length-map}
use Rattle.std.proofs.lemmas.Result.{err_from_is_err_and}
use Rattle.toml.specs.View.{view}
use Rattle.topology_file.specs.Ports.{names_of}
use Rattle.topology_file.specs.Refusals.{links_refusal}
use Rattle.topology_file.proofs.Elements.{get_or-map}
use Rattle.topology_file.proofs.Answering.{refuses_all, at_entry_none}
use Rattle.topology_file.proofs.LinksInOrder.{one_more_joined, refused_here}
use Rattle.topology_file.proofs.links.links.Goals as goal

pub returns-in_err-link : goal.returns-in_err-link
returns-in_err-link c =
    let p = err_from_is_err_and c.from_residual-in_err-link.result c.from_residual-in_err-link.ensures.1 in
    let names = names_of c.args.components.now in
    let entries = map view c.args.entries.now in
    let count = c.loop-entry.entry-index in
    let d = view c.entry-item.result in
    let within : count < length entries = omega (arith, length-map c.args.entries.now view) in
    let this : d ≡ get_or entries count d = get_or-map view c.args.entries.now count c.entry-item.result c.entry-item.is in
    rw (p.1, p.2) (refuses_all _ (links_refusal names c.args.kinds.now 0 [] entries) c.in_err-link.field-0.0 (refused_here names c.args.kinds.now entries count c.loop-entry.joined.links d within this c.loop-entry.invariant) c.in_err-link.ensures)

pub loop-entry-preserved : goal.loop-entry-preserved
loop-entry-preserved c =
    let names = names_of c.args.components.now in
    let entries = map view c.args.entries.now in
    let count = c.loop-entry.entry-index in
    let d = view c.entry-item.result in
    let within : count < length entries = omega (arith, length-map c.args.entries.now view) in
    let this : d ≡ get_or entries count d = get_or-map view c.args.entries.now count c.entry-item.result c.entry-item.is in
    rw c.in_ok-push.ensures.ok (one_more_joined names c.args.kinds.now entries count c.loop-entry.joined.links d within this c.loop-entry.invariant c.in_ok-link.link (at_entry_none _ _ c.in_ok-link.ensures.0) c.in_ok-link.ensures.1.spelled)
