-- A document that is refused for nothing: its components and links make a topology.
use Rattle.std.proofs.Common.{◌≡◌, ℕ, ◌+◌, ◌≤◌, true, not, ◌&&◌, List, [], ◌∷◌, ◌++◌, length, map, replicate, Option, Some, None, refl, ap, sym, ◌∙◌, subst, arith, length-append, All}
use Rattle.std.specs.Option.{option_or}
use Rattle.std.specs.List.{AllByRecursion, AllZip}
use Rattle.std.proofs.lemmas.Bool.Decides.{nat_tests}
use Rattle.std.proofs.lemmas.List.{length-map, length-replicate}
use Rattle.std.proofs.lemmas.List.Elements.{All-from_recursion}
use Rattle.toml.specs.Data.{Data}
use Rattle.cs_base.specs.declared.link.Link.{Link}
use Rattle.cs_base.specs.declared.port_kind.PortKind.{PortKind}
use Rattle.cs_base.specs.declared.port_kind.PortKind.TheVariants.{Eth, PcieHost, MemHost}
use Rattle.cs_base.specs.Plan.{End, uses_of, Joins, IsPlan}
use Rattle.topology_file.specs.declared.config.Config.{Config}
use Rattle.topology_file.specs.declared.config.Config.TheVariants as config
use Rattle.topology_file.specs.declared.component.Component.{Component}
use Rattle.topology_file.specs.declared.form.Kind.{Kind}
use Rattle.topology_file.specs.declared.form.Kind.TheVariants as kind
use Rattle.topology_file.specs.declared.key.Key.TheVariants as key
use Rattle.topology_file.specs.declared.reason.Entry.TheVariants as entry
use Rattle.topology_file.specs.declared.reason.TopoReason.TheVariants.{NameTwice}
use Rattle.topology_file.specs.Ports.{ports_of, kinds_of, names_of, is_among, are_new, IsTopology}
use Rattle.topology_file.specs.Fields.{number_at, text_at, elements_at, kind_at as kind_of}
use Rattle.topology_file.specs.Faults.{top_fault, component_fault}
use Rattle.topology_file.specs.Links.{link_of, is_free}
use Rattle.topology_file.specs.Refusals.{Refusal, at_entry, ports_by, ports_at, names_in, kinds_in, links_in, components_refusal, links_refusal, ports_refusal, refusal}
use Rattle.topology_file.specs.Spelled.{SpellsConfig, SpellsComponent}
use Rattle.topology_file.specs.Valid.{IsValidAs, IsValidTop}
use Rattle.topology_file.specs.Parts.{AreComponentsOf}
use Rattle.topology_file.proofs.Sound.{or_none, unless_none}
use Rattle.topology_file.proofs.Validity.{IsFaultless, faultless, valid_top}
use Rattle.topology_file.proofs.Answering.{at_entry_none}
use Rattle.topology_file.proofs.FreePorts.{each_in_link}
use Rattle.topology_file.proofs.Joining.{AreOnce, all_once}

-- ---- names

names_new : (number : ℕ) (names : List (List ℕ)) (ds : List Data) → components_refusal number names ds ≡ None → are_new names (map (λ d. text_at d key.Name) ds) ≡ true
names_new number names [] none = refl
names_new number names (d ∷ ds) none =
    let name = text_at d key.Name in
    let (here, rest) = or_none (at_entry (entry.Component number) (component_fault names d)) (components_refusal (number + 1) (names ++ name ∷ []) ds) none in
    let faults : IsFaultless names d = faultless names d (at_entry_none (entry.Component number) _ here) in
    ap (λ b. b && are_new (names ++ name ∷ []) (map (λ d. text_at d key.Name) ds)) (unless_none (not (is_among name names)) NameTwice faults.new) ∙ names_new (number + 1) (names ++ name ∷ []) ds rest

names_spelled : (ds : List Data) (components : List Component) → AllZip SpellsComponent ds components → names_of components ≡ map (λ d. text_at d key.Name) ds
names_spelled [] [] spelled = refl
names_spelled [] (c ∷ cs) spelled = absurd spelled
names_spelled (d ∷ ds) [] spelled = absurd spelled
names_spelled (d ∷ ds) (c ∷ cs) spelled = λ i. spelled.0.name i ∷ names_spelled ds cs spelled.1 i

-- ---- ports

ports_spelled : (kind : Kind) (d : Data) (config : Config) → SpellsConfig kind d config → ports_of config ≡ ports_by kind d
ports_spelled kind.Beacon d (config.Beacon c) spelled = refl
ports_spelled kind.Switch d (config.Switch c) spelled = ap (λ n. replicate n Eth) spelled.ports
ports_spelled kind.Memory d (config.Memory c) spelled = refl
ports_spelled kind.Host d (config.Host c) spelled = λ i. replicate (spelled.pcie i) PcieHost ++ replicate (spelled.mem i) MemHost
ports_spelled kind.Nic d (config.Nic c) spelled = refl
ports_spelled kind d config spelled = absurd spelled

kinds_spelled : (ds : List Data) (components : List Component) → AllZip SpellsComponent ds components → kinds_of components ≡ map ports_at ds
kinds_spelled [] [] spelled = refl
kinds_spelled [] (c ∷ cs) spelled = absurd spelled
kinds_spelled (d ∷ ds) [] spelled = absurd spelled
kinds_spelled (d ∷ ds) (c ∷ cs) spelled = λ i. ports_spelled (kind_of d) d c.config spelled.0.config i ∷ kinds_spelled ds cs spelled.1 i

few_by : (kind : Kind) (d : Data) → IsValidAs kind d → length (ports_by kind d) ≤ 32
few_by kind.Beacon d valid = omega arith
few_by kind.Switch d valid = omega (arith, length-replicate (number_at d key.Ports) Eth, valid.few_ports)
few_by kind.Memory d valid = omega arith
few_by kind.Host d valid =
    omega (arith, length-append (replicate (number_at d key.Pcie) PcieHost) (replicate (number_at d key.Mem) MemHost), length-replicate (number_at d key.Pcie) PcieHost, length-replicate (number_at d key.Mem) MemHost, valid.host.few_ports)
few_by kind.Nic d valid = omega arith

abbrev pub AreFew : List (List PortKind) → Type 0
AreFew kinds = AllByRecursion (λ (ports : List PortKind). length ports ≤ 32) kinds

few_ports : (number : ℕ) (names : List (List ℕ)) (ds : List Data) → components_refusal number names ds ≡ None → AreFew (map ports_at ds)
few_ports number names [] none = tt
few_ports number names (d ∷ ds) none =
    let (here, rest) = or_none (at_entry (entry.Component number) (component_fault names d)) (components_refusal (number + 1) (names ++ text_at d key.Name ∷ []) ds) none in
    let faults : IsFaultless names d = faultless names d (at_entry_none (entry.Component number) _ here) in
    (few_by (kind_of d) d faults.valid.config, few_ports (number + 1) (names ++ text_at d key.Name ∷ []) ds rest)

-- ---- the whole

-- what is refused for a component
pub component_refused : (document : Data) → top_fault document ≡ None → (refused : Refusal) → components_refusal 0 [] (elements_at document key.Components) ≡ Some refused → refusal document ≡ Some refused
component_refused document top refused here =
    ap (λ fault. option_or (at_entry entry.Top fault) (option_or (components_refusal 0 [] (elements_at document key.Components)) (option_or (links_refusal (names_in document) (kinds_in document) 0 [] (elements_at document key.Links)) (ports_refusal (links_in document) 0 (kinds_in document))))) top
    ∙ ap (λ found. option_or found (option_or (links_refusal (names_in document) (kinds_in document) 0 [] (elements_at document key.Links)) (ports_refusal (links_in document) 0 (kinds_in document)))) here

module _ (document : Data) (components : List Component) (kinds : List (List PortKind)) (whole : AreComponentsOf document components kinds) where
  pub same_names : names_of components ≡ names_in document
  same_names = names_spelled (elements_at document key.Components) components whole.spelled

  pub same_kinds : kinds ≡ kinds_in document
  same_kinds = whole.kinds_are ∙ kinds_spelled (elements_at document key.Components) components whole.spelled

  pub is_topology : IsTopology components kinds
  is_topology = record {
    names_differ = ap (are_new []) same_names ∙ names_new 0 [] (elements_at document key.Components) whole.read;
    kinds_of_ports = whole.kinds_are;
  }

  pub top : IsValidTop document
  top = valid_top document whole.top

  pub component_count : length components ≡ length (elements_at document key.Components)
  component_count = sym (length-map components (λ (c : Component). c.name)) ∙ (ap length same_names ∙ length-map (elements_at document key.Components) (λ d. text_at d key.Name))

  pub few_components : length components ≤ 64
  few_components = omega (arith, component_count, top.few_components)

  pub kind_count : length kinds ≡ length (elements_at document key.Components)
  kind_count = ap length same_kinds ∙ length-map (elements_at document key.Components) ports_at

  pub few_kinds : length kinds ≤ 64
  few_kinds = omega (arith, kind_count, top.few_components)

  pub few_ports_each : All (λ (ports : List PortKind). length ports ≤ 32) kinds
  few_ports_each =
      let Few : List (List PortKind) → Type 0 = λ kinds. All (λ (ports : List PortKind). length ports ≤ 32) kinds in
      subst Few (sym same_kinds) (All-from_recursion (λ (ports : List PortKind). length ports ≤ 32) (kinds_in document) (few_ports 0 [] (elements_at document key.Components) whole.read))

  -- what is refused after the components
  pub refusal_after : (rest : Option Refusal) → option_or (links_refusal (names_in document) (kinds_in document) 0 [] (elements_at document key.Links)) (ports_refusal (links_in document) 0 (kinds_in document)) ≡ rest → refusal document ≡ rest
  refusal_after rest after =
      ap (λ fault. option_or (at_entry entry.Top fault) (option_or (components_refusal 0 [] (elements_at document key.Components)) (option_or (links_refusal (names_in document) (kinds_in document) 0 [] (elements_at document key.Links)) (ports_refusal (links_in document) 0 (kinds_in document))))) whole.top
      ∙ (ap (λ refused. option_or refused (option_or (links_refusal (names_in document) (kinds_in document) 0 [] (elements_at document key.Links)) (ports_refusal (links_in document) 0 (kinds_in document)))) whole.read ∙ after)

  links_same : links_refusal (names_of components) kinds 0 [] (elements_at document key.Links) ≡ links_refusal (names_in document) (kinds_in document) 0 [] (elements_at document key.Links)
  links_same = λ i. links_refusal (same_names i) (same_kinds i) 0 [] (elements_at document key.Links)

  pub link_refused : (refused : Refusal) → links_refusal (names_of components) kinds 0 [] (elements_at document key.Links) ≡ Some refused → refusal document ≡ Some refused
  link_refused refused here =
      refusal_after (Some refused) (ap (λ found. option_or found (ports_refusal (links_in document) 0 (kinds_in document))) (sym links_same ∙ here))

  module _ (links : List Link) (read : links_refusal (names_of components) kinds 0 [] (elements_at document key.Links) ≡ None) (spelled : links ≡ map (link_of (names_of components)) (elements_at document key.Links)) where
    pub same_links : links ≡ links_in document
    same_links = spelled ∙ ap (λ names. map (link_of names) (elements_at document key.Links)) same_names

    ports_same : ports_refusal links 0 kinds ≡ ports_refusal (links_in document) 0 (kinds_in document)
    ports_same = λ i. ports_refusal (same_links i) 0 (same_kinds i)

    pub port_refused : (rest : Option Refusal) → ports_refusal links 0 kinds ≡ rest → refusal document ≡ rest
    port_refused rest here =
        refusal_after rest (ap (λ found. option_or found (ports_refusal (links_in document) 0 (kinds_in document))) (sym links_same ∙ read) ∙ (sym ports_same ∙ here))

    once : AreOnce kinds links
    once =
        let Once : List Link → Type 0 = λ links. AreOnce kinds links in
        subst Once (sym spelled) (all_once (names_of components) kinds 0 [] (elements_at document key.Links) read (record { join = tt; once = λ end. omega arith }))

    used_once : (links : List Link) (end : End) → uses_of links end ≤ 1 → not (is_free links end) ≡ true → uses_of links end ≡ 1
    used_once links end few used = grind (arith, nat_tests)

    pub is_plan : ports_refusal links 0 kinds ≡ None → IsPlan (number_at document key.End) kinds links
    is_plan free = record {
      sized = record {
        some_time = top.some_time;
        short_time = top.short_time;
        some_component = omega (arith, kind_count, top.some_component);
        few_components = few_kinds;
        few_ports = few_ports_each;
        few_links = omega (arith, ap length spelled, length-map (elements_at document key.Links) (link_of (names_of components)), top.few_links);
      };
      links_join = All-from_recursion (Joins kinds) links once.join;
      in_one_link = λ end there. used_once links end (once.once end) (each_in_link links kinds free end there);
    }
