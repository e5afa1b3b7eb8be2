-- The components of a document, on the way to its topology.
use Rattle.std.specs.Prelude.{◌≡◌, List, [], None}
use Rattle.std.specs.List.{AllZip}
use Rattle.toml.specs.Data.{Data}
use Rattle.cs_base.specs.declared.port_kind.PortKind.{PortKind}
use Rattle.topology_file.specs.declared.component.Component.{Component}
use Rattle.topology_file.specs.declared.key.Key.TheVariants as key
use Rattle.topology_file.specs.Ports.{kinds_of}
use Rattle.topology_file.specs.Fields.{elements_at}
use Rattle.topology_file.specs.Faults.{top_fault}
use Rattle.topology_file.specs.Refusals.{components_refusal}
use Rattle.topology_file.specs.Spelled.{SpellsComponent}

-- neither the document nor a component is refused, and these are the components and their kinds
pub record AreComponentsOf (document : Data) (components : List Component) (kinds : List (List PortKind)) : Type 0 where
  pub top : top_fault document ≡ None
  pub read : components_refusal 0 [] (elements_at document key.Components) ≡ None
  pub spelled : AllZip SpellsComponent (elements_at document key.Components) components
  pub kinds_are : kinds ≡ kinds_of components
