-- The full table is no deeper than arrays of tables.
use Rattle.std.proofs.Common.{ℕ, ◌≤◌, List, [], ◌∷◌, map, arith}
use Rattle.toml.specs.Data.{Data, depth, items_depth, members_depth}
use Rattle.toml.specs.View.{items_of}
use Rattle.cs_base.specs.declared.link.Link.{Link}
use Rattle.topology_file.specs.declared.config.Config.{Config}
use Rattle.topology_file.specs.declared.config.Config.TheVariants.{Beacon, Switch, Memory, Host, Nic}
use Rattle.topology_file.specs.declared.component.Component.{Component}
use Rattle.topology_file.specs.declared.topology.Topology.{Topology}
use Rattle.topology_file.specs.Ports.{names_of}
use Rattle.topology_file.specs.Full.{full_component, full_link, full}
use Rattle.topology_file.proofs.FullComponents.{written}

entries_shallow : {T : Type 0} (f : T → Data) (most : ℕ) → ((x : T) → depth (f x) ≤ most) → (xs : List T) → items_depth (items_of (map f xs)) ≤ most
entries_shallow f most each [] = omega arith
entries_shallow f most each (x ∷ xs) = omega (arith, each x, entries_shallow f most each xs)

component_shallow : (name : List ℕ) (c : Config) → depth (written name c) ≤ 1
component_shallow name (Beacon c) = omega arith
component_shallow name (Switch c) = omega arith
component_shallow name (Memory c) = omega arith
component_shallow name (Host c) = omega arith
component_shallow name (Nic c) = omega arith

link_shallow : (names : List (List ℕ)) (link : Link) → depth (full_link names link) ≤ 1
link_shallow names link = omega arith

pub full_shallow : (t : Topology) → members_depth (full t) ≤ 80
full_shallow t =
    let names = names_of t.components in
    let components : items_depth (items_of (map full_component t.components)) ≤ 1 = entries_shallow full_component 1 (λ (c : Component). component_shallow c.name c.config) t.components in
    let links : items_depth (items_of (map (full_link names) t.wiring.links)) ≤ 1 = entries_shallow (full_link names) 1 (link_shallow names) t.wiring.links in
    omega (arith, components, links)
