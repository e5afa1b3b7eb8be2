-- What can be wrong with a link, after other links: what its entry says by itself comes first, then its ends.
use Rattle.std.specs.Prelude.{ℕ, Bool, not, ◌&&◌, ◌==◌, nat_le, List, Option, Some, is_some, position, unwrap_or, if◌then◌else◌}
use Rattle.std.specs.Option.{option_or}
use Rattle.std.specs.Str.{bytes_eq}
use Rattle.toml.specs.Data.{Data}
use Rattle.cs_base.specs.declared.link.Link.{Link}
use Rattle.cs_base.specs.declared.port_kind.PortKind.{PortKind}
use Rattle.cs_base.specs.Plan.{End, same_end, first_end, second_end, uses_of, kind_at, joins}
use Rattle.topology_file.specs.declared.key.Key.TheVariants as key
use Rattle.topology_file.specs.declared.reason.TopoReason.{TopoReason}
use Rattle.topology_file.specs.declared.reason.TopoReason.TheVariants.{WrongType, NoSuchComponent, PortTwice, PortMissing, KindsDoNotJoin, IntervalPastLatency}
use Rattle.topology_file.specs.Keys.{link_keys}
use Rattle.topology_file.specs.Fields.{number_at, text_at, interval_at, via_at}
use Rattle.topology_file.specs.Faults.{unless, own_fault, is_table}

-- the number of the component of a name
abbrev pub component_named : List (List ℕ) → List ℕ → Option ℕ
component_named names name = position (bytes_eq name) names

abbrev pub link_between : ℕ → ℕ → Data → Link
link_between a b d = record {
  a = a;
  a_port = number_at d key.APort;
  b = b;
  b_port = number_at d key.BPort;
  latency = number_at d key.Latency;
  interval = interval_at d;
  slots = number_at d key.Slots;
  via = via_at d;
}

-- the link that an entry spells, among components of these names
abbrev pub link_of : List (List ℕ) → Data → Link
link_of names d = link_between (unwrap_or (component_named names (text_at d key.A)) 0) (unwrap_or (component_named names (text_at d key.B)) 0) d

abbrev pub names_fault : List (List ℕ) → Data → Option TopoReason
names_fault names d = unless (is_some (component_named names (text_at d key.A)) && is_some (component_named names (text_at d key.B))) NoSuchComponent

-- no link has an end at the port
abbrev pub is_free : List Link → End → Bool
is_free links end = uses_of links end == 0

abbrev pub twice_fault : List Link → Link → Option TopoReason
twice_fault links link =
    unless (is_free links (first_end link) && is_free links (second_end link) && not (same_end (first_end link) (second_end link))) PortTwice

-- a port is missing, or the kinds of the ports are no partners
abbrev pub ports_join_fault : Option PortKind → Option PortKind → Option TopoReason
ports_join_fault (Some a) (Some b) = unless (joins a b) KindsDoNotJoin
ports_join_fault _ _ = Some PortMissing

abbrev pub interval_fault : Link → Option TopoReason
interval_fault link = unless (nat_le link.interval link.latency) IntervalPastLatency

abbrev pub join_fault : List (List PortKind) → List Link → Link → Option TopoReason
join_fault kinds links link =
    option_or (twice_fault links link) (option_or (ports_join_fault (kind_at kinds (first_end link)) (kind_at kinds (second_end link))) (interval_fault link))

abbrev pub link_fault : List (List ℕ) → List (List PortKind) → List Link → Data → Option TopoReason
link_fault names kinds links d =
    if is_table d then option_or (own_fault link_keys d) (option_or (names_fault names d) (join_fault kinds links (link_of names d))) else Some WrongType
