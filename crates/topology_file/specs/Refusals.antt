-- Which documents are no topology: the first refusal, by entries in the order of the file.
use Rattle.std.specs.Prelude.{ℕ, ◌+◌, Bool, not, List, [], ◌∷◌, ◌++◌, length, map, replicate, Option, None, option_map}
use Rattle.std.specs.Option.{option_or}
use Rattle.std.specs.List.{list_all, range_with_len}
use Rattle.toml.specs.Data.{Data}
use Rattle.cs_base.specs.declared.link.Link.{Link}
use Rattle.cs_base.specs.declared.port_kind.PortKind.{PortKind}
use Rattle.cs_base.specs.declared.port_kind.PortKind.TheVariants.{Eth, PcieDev, PcieHost, MemDev, MemHost}
use Rattle.topology_file.specs.declared.form.Kind.{Kind}
use Rattle.topology_file.specs.declared.form.Kind.TheVariants as kind
use Rattle.topology_file.specs.declared.key.Key.TheVariants as key
use Rattle.topology_file.specs.declared.reason.TopoReason.{TopoReason}
use Rattle.topology_file.specs.declared.reason.TopoReason.TheVariants.{PortFree}
use Rattle.topology_file.specs.declared.reason.Entry.{Entry}
use Rattle.topology_file.specs.declared.reason.Entry.TheVariants as entry
use Rattle.topology_file.specs.Fields.{number_at, text_at, elements_at, kind_at}
use Rattle.topology_file.specs.Faults.{unless, top_fault, component_fault}
use Rattle.topology_file.specs.Links.{link_of, link_fault, is_free}

-- a reason and the entry that it is of
abbrev pub Refusal : Type 0
Refusal = TopoReason × Entry

abbrev pub at_entry : Entry → Option TopoReason → Option Refusal
at_entry entry fault = option_map (λ reason. (reason, entry)) fault

-- the ports of the component that an entry spells
abbrev pub ports_by : Kind → Data → List PortKind
ports_by kind.Beacon d = Eth ∷ []
ports_by kind.Switch d = replicate (number_at d key.Ports) Eth
ports_by kind.Memory d = MemDev ∷ []
ports_by kind.Host d = replicate (number_at d key.Pcie) PcieHost ++ replicate (number_at d key.Mem) MemHost
ports_by kind.Nic d = PcieDev ∷ Eth ∷ []

abbrev pub ports_at : Data → List PortKind
ports_at d = ports_by (kind_at d) d

-- what a document says of all components and links
abbrev pub names_in : Data → List (List ℕ)
names_in document = map (λ d. text_at d key.Name) (elements_at document key.Components)

abbrev pub kinds_in : Data → List (List PortKind)
kinds_in document = map ports_at (elements_at document key.Components)

abbrev pub links_in : Data → List Link
links_in document = map (link_of (names_in document)) (elements_at document key.Links)

-- the components from a number on, after those of these names
abbrev pub components_refusal : ℕ → List (List ℕ) → List Data → Option Refusal
components_refusal number names [] = None
components_refusal number names (d ∷ ds) =
    option_or (at_entry (entry.Component number) (component_fault names d)) (components_refusal (number + 1) (names ++ text_at d key.Name ∷ []) ds)

module _ (names : List (List ℕ)) (kinds : List (List PortKind)) where
  -- the links from a number on, after these links
  abbrev pub links_refusal : ℕ → List Link → List Data → Option Refusal
  links_refusal number links [] = None
  links_refusal number links (d ∷ ds) =
      option_or (at_entry (entry.Link number) (link_fault names kinds links d)) (links_refusal (number + 1) (links ++ link_of names d ∷ []) ds)

-- each of the first so many ports of a component is in a link
abbrev pub are_joined : List Link → ℕ → ℕ → Bool
are_joined links component count = list_all (λ port. not (is_free links (record { component = component; port = port }))) (range_with_len 0 count)

-- the components from a number on, which have these ports
abbrev pub ports_refusal : List Link → ℕ → List (List PortKind) → Option Refusal
ports_refusal links number [] = None
ports_refusal links number (ports ∷ kinds) =
    option_or (at_entry (entry.Component number) (unless (are_joined links number (length ports)) PortFree)) (ports_refusal links (number + 1) kinds)

-- the first refusal of a document; a free port is tried after all else
abbrev pub refusal : Data → Option Refusal
refusal document =
    option_or (at_entry entry.Top (top_fault document))
    (option_or (components_refusal 0 [] (elements_at document key.Components))
    (option_or (links_refusal (names_in document) (kinds_in document) 0 [] (elements_at document key.Links))
    (ports_refusal (links_in document) 0 (kinds_in document))))
