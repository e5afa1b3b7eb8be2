use Rattle.std.proofs.Common.{◌≡◌, None, length, map, ap, ◌∙◌, arith, rules}
use Rattle.std.proofs.lemmas.List.{length-map}
use Rattle.std.proofs.lemmas.Result.{err_from_is_err_and}
use Rattle.toml.specs.View.{view}
use Rattle.topology_file.specs.declared.key.Key.TheVariants as key
use Rattle.topology_file.specs.Fields.{elements_at}
use Rattle.topology_file.specs.Refusals.{ports_refusal, refusal}
use Rattle.topology_file.proofs.Accepted.{few_components, few_kinds, few_ports_each, top, is_topology, link_refused, port_refused, is_plan, same_links}
use Rattle.topology_file.proofs.Answering.{refuses_all}
use Rattle.topology_file.proofs.reader.topology.Goals as goal

pub links-requires-clause-few_components : goal.links-requires-clause-few_components
links-requires-clause-few_components c =
    rw c.as_slice.ensures (few_components (view c.args.document.now) c.in_ok-components.components c.in_ok-components.kinds c.in_ok-components.ensures)

pub links-requires-clause-few_links : goal.links-requires-clause-few_links
links-requires-clause-few_links c =
    let d = view c.args.document.now in
    let same : length (map view c.elements_at-entries.result.now) ≡ length (elements_at d key.Links) = ap length c.elements_at-entries.ensures in
    omega (arith, length-map c.elements_at-entries.result.now view, same, (top d c.in_ok-components.components c.in_ok-components.kinds c.in_ok-components.ensures).few_links)

pub returns-in_err-joined : goal.returns-in_err-joined
returns-in_err-joined c =
    let d = view c.args.document.now in
    let p = err_from_is_err_and c.from_residual-in_err-joined.result c.from_residual-in_err-joined.ensures.1 in
    let told = rw (c.as_slice.ensures, c.as_slice-2.ensures, c.elements_at-entries.ensures) at c.in_err-joined.ensures in
    rw (p.1, p.2) (refuses_all _ (refusal d) c.in_err-joined.field-0.0 (link_refused d c.in_ok-components.components c.in_ok-components.kinds c.in_ok-components.ensures) told)

pub free_port-requires-clause-few_components : goal.free_port-requires-clause-few_components
free_port-requires-clause-few_components c =
    rw c.as_slice-3.ensures (few_kinds (view c.args.document.now) c.in_ok-components.components c.in_ok-components.kinds c.in_ok-components.ensures)

pub free_port-requires-clause-few_ports : goal.free_port-requires-clause-few_ports
free_port-requires-clause-few_ports c =
    rw c.as_slice-3.ensures (few_ports_each (view c.args.document.now) c.in_ok-components.components c.in_ok-components.kinds c.in_ok-components.ensures)

pub returns-in-Some : goal.returns-in-Some
returns-in-Some c =
    let told = rw (c.as_slice.ensures, c.as_slice-2.ensures, c.elements_at-entries.ensures) at c.in_ok-joined.ensures in
    let free = rw c.as_slice-3.ensures at c.in-Some.ensures in
    port_refused (view c.args.document.now) c.in_ok-components.components c.in_ok-components.kinds c.in_ok-components.ensures c.in_ok-joined.joined.links told.0 told.1 _ free

pub assembled-requires-clause-plan : goal.assembled-requires-clause-plan
assembled-requires-clause-plan c =
    let told = rw (c.as_slice.ensures, c.as_slice-2.ensures, c.elements_at-entries.ensures) at c.in_ok-joined.ensures in
    let free : ports_refusal c.in_ok-joined.joined.links 0 c.as_slice-3.result.now ≡ None = search rules in
    rw c.number_at.ensures (is_plan (view c.args.document.now) c.in_ok-components.components c.in_ok-components.kinds c.in_ok-components.ensures c.in_ok-joined.joined.links told.0 told.1 (rw c.as_slice-3.ensures at free))

pub assembled-requires-clause-topology : goal.assembled-requires-clause-topology
assembled-requires-clause-topology c =
    is_topology (view c.args.document.now) c.in_ok-components.components c.in_ok-components.kinds c.in_ok-components.ensures

pub returns : goal.returns
returns c =
    let d = view c.args.document.now in
    let told = rw (c.as_slice.ensures, c.as_slice-2.ensures, c.elements_at-entries.ensures) at c.in_ok-joined.ensures in
    let free : ports_refusal c.in_ok-joined.joined.links 0 c.as_slice-3.result.now ≡ None = search rules in (
      port_refused d c.in_ok-components.components c.in_ok-components.kinds c.in_ok-components.ensures c.in_ok-joined.joined.links told.0 told.1 None (rw c.as_slice-3.ensures at free),
      record {
        components = rw c.assembled.ensures.components c.in_ok-components.ensures.spelled;
        end = c.assembled.ensures.end ∙ c.number_at.ensures;
        links = c.assembled.ensures.links ∙ same_links d c.in_ok-components.components c.in_ok-components.kinds c.in_ok-components.ensures c.in_ok-joined.joined.links told.0 told.1;
      },
    )
