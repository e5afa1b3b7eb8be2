-- The full table of a topology is refused for nothing, and spells the topology.
use Rattle.std.proofs.Common.{◌≡◌, ℕ, ◌+◌, ◌^◌, ◌<◌, ◌≤◌, true, All, List, [], ◌∷◌, length, map, get_or, Some, None, refl, ap, sym, ◌∙◌, subst, arith}
use Rattle.std.specs.Prelude.{is_some}
use Rattle.std.specs.List.{AllZip, AllByRecursion}
use Rattle.std.proofs.lemmas.List.{length-map}
use Rattle.std.proofs.lemmas.List.Elements.{recursion_from_All}
use Rattle.toml.specs.Data.{Data, table}
use Rattle.toml.specs.View.{items_of}
use Rattle.cs_base.specs.declared.link.Link.{Link}
use Rattle.cs_base.specs.declared.port_kind.PortKind.{PortKind}
use Rattle.cs_base.specs.Plan.{kind_at, uses_of, Joins, IsPlan}
use Rattle.topology_file.specs.declared.component.Component.{Component}
use Rattle.topology_file.specs.declared.topology.Topology.{Topology}
use Rattle.topology_file.specs.declared.form.Form.TheVariants as form
use Rattle.topology_file.specs.declared.key.Key.TheVariants as key
use Rattle.topology_file.specs.declared.reason.Entry.TheVariants as entry
use Rattle.topology_file.specs.Keys.{top_keys}
use Rattle.topology_file.specs.Fields.{list_of, text_at, elements_at}
use Rattle.topology_file.specs.Ports.{ports_of, names_of, kinds_of}
use Rattle.topology_file.specs.Faults.{value_fault, own_fault, size_fault, top_fault}
use Rattle.topology_file.specs.Links.{component_named, link_of}
use Rattle.topology_file.specs.Reasons.{lesser}
use Rattle.topology_file.specs.Refusals.{at_entry, ports_at, names_in, kinds_in, links_in, components_refusal, links_refusal, ports_refusal, refusal}
use Rattle.topology_file.specs.Spelled.{SpellsComponent, Spells}
use Rattle.topology_file.specs.Reading.{IsDocument, IsTopologyText}
use Rattle.topology_file.specs.Full.{entries, full_component, full_link, full}
use Rattle.topology_file.specs.Typed.{IsTyped}
use Rattle.topology_file.proofs.FullComponents.{components_pass, components_spelled, names_written, kinds_written}
use Rattle.topology_file.proofs.FullLinks.{links_pass, links_spelled}
use Rattle.topology_file.proofs.FullPorts.{ports_pass}
use Rattle.topology_file.proofs.Passing.{nat_passes, within_passes, own_passes, none_or}
use Rattle.topology_file.proofs.Places.{named_at}

list_of-items_of : (ds : List Data) → list_of (items_of ds) ≡ ds
list_of-items_of [] = refl
list_of-items_of (d ∷ ds) = ap (λ rest. d ∷ rest) (list_of-items_of ds)

some_entries : {T : Type 0} (f : T → Data) (xs : List T) → 1 ≤ length xs → value_fault form.SomeEntries (entries (map f xs)) ≡ None
some_entries f [] some = absurd (omega arith)
some_entries f (x ∷ xs) some = refl

module _ (t : Topology) where
  abbrev document : Data
  document = table (full t)

  abbrev names : List (List ℕ)
  names = names_of t.components

  abbrev kinds : List (List PortKind)
  kinds = kinds_of t.components

  abbrev links : List Link
  links = t.wiring.links

  -- ---- what it says of all components and links

  component_entries : elements_at document key.Components ≡ map full_component t.components
  component_entries = list_of-items_of (map full_component t.components)

  link_entries : elements_at document key.Links ≡ map (full_link names) links
  link_entries = list_of-items_of (map (full_link names) links)

  names_said : names_in document ≡ names
  names_said = ap (map (λ d. text_at d key.Name)) component_entries ∙ names_written t.components

  kinds_said : kinds_in document ≡ kinds
  kinds_said = ap (map ports_at) component_entries ∙ kinds_written t.components

  -- ---- the plan

  plan : IsPlan t.wiring.end kinds links
  plan =
      let Plan : List (List PortKind) → Type 0 = λ kinds. IsPlan t.wiring.end kinds links in
      subst Plan t.valid.kinds_of_ports t.wiring.valid

  count : length kinds ≡ length t.components
  count = length-map t.components (λ (c : Component). ports_of c.config)

  named : (k : ℕ) → k < length kinds → component_named names (get_or names k []) ≡ Some k
  named k within = named_at names k t.valid.names_differ (omega (arith, count, within, length-map t.components (λ (c : Component). c.name)))

  few_ports : AllByRecursion (λ (ports : List PortKind). length ports ≤ 32) kinds
  few_ports = recursion_from_All (λ (ports : List PortKind). length ports ≤ 32) kinds plan.sized.few_ports

  all_join : AllByRecursion (Joins kinds) links
  all_join = recursion_from_All (Joins kinds) links plan.links_join

  links_said : links_in document ≡ links
  links_said =
      ap (λ names. map (link_of names) (elements_at document key.Links)) names_said
      ∙ ap (map (link_of names)) link_entries
      ∙ links_spelled names kinds named few_ports links all_join

  -- ---- no refusal

  top_passes : top_fault document ≡ None
  top_passes =
      let some : 1 ≤ length t.components = omega (arith, count, plan.sized.some_component) in
      let own : own_fault top_keys document ≡ None = own_passes top_keys document refl (
        refl,
        (
          within_passes 1 (10 ^ 15) t.wiring.end plan.sized.some_time plan.sized.short_time,
          (
            some_entries full_component t.components some,
            (
              refl,
              tt,
            ),
          ),
        ),
      ) in
      let few_components : length (elements_at document key.Components) ≤ 64 =
      omega (arith, ap length component_entries, length-map t.components full_component, count, plan.sized.few_components) in
      let few_links : length (elements_at document key.Links) ≤ 1024 =
      omega (arith, ap length link_entries, length-map links (full_link names), plan.sized.few_links) in
      let size : size_fault document ≡ None = rw (nat_passes _ 64 few_components, nat_passes _ 1024 few_links) in
      ap (λ fault. lesser fault (size_fault document)) own ∙ size

  components_not_refused : AllByRecursion IsTyped t.components → components_refusal 0 [] (elements_at document key.Components) ≡ None
  components_not_refused typed = ap (components_refusal 0 []) component_entries ∙ components_pass 0 [] t.components t.valid.names_differ typed

  links_not_refused : links_refusal (names_in document) (kinds_in document) 0 [] (elements_at document key.Links) ≡ None
  links_not_refused =
      ap (λ names. links_refusal names (kinds_in document) 0 [] (elements_at document key.Links)) names_said
      ∙ ap (λ kinds. links_refusal names kinds 0 [] (elements_at document key.Links)) kinds_said
      ∙ ap (links_refusal names kinds 0 []) link_entries
      ∙ links_pass names kinds named few_ports 0 [] links all_join plan.in_one_link

  ports_not_refused : ports_refusal (links_in document) 0 (kinds_in document) ≡ None
  ports_not_refused =
      let once : (component port : ℕ) → is_some (kind_at kinds (record { component = component; port = port })) ≡ true → uses_of links (record { component = 0 + component; port = port }) ≡ 1 =
      λ component port there. let same : 0 + component ≡ component = omega arith in
      ap (λ n. uses_of links (record { component = n; port = port })) same ∙ plan.in_one_link (record { component = component; port = port }) there in
      ap (λ links. ports_refusal links 0 (kinds_in document)) links_said
      ∙ ap (ports_refusal links 0) kinds_said
      ∙ ports_pass links 0 kinds once

  not_refused : AllByRecursion IsTyped t.components → refusal document ≡ None
  not_refused typed =
      none_or _ _ (ap (at_entry entry.Top) top_passes) (none_or _ _ (components_not_refused typed) (none_or _ _ links_not_refused ports_not_refused))

  -- ---- what it spells

  spelled : AllByRecursion IsTyped t.components → Spells document t
  spelled typed =
      let Zip : List Data → Type 0 = λ ds. AllZip SpellsComponent ds t.components in
      record {
        components = subst Zip (sym component_entries) (components_spelled t.components typed);
        end = refl;
        links = sym links_said;
      }

  pub read_again : (text : List ℕ) → All IsTyped t.components → IsDocument text (full t) → IsTopologyText text t
  read_again text typed is_document =
      let each = recursion_from_All IsTyped t.components typed in
      record { members = full t; document = is_document; accepted = not_refused each; spelled = spelled each }
