-- What can be wrong with an entry by itself. Where several faults are there, the one of the least number counts.
use Rattle.std.specs.Prelude.{ℕ, ◌+◌, ◌%◌, ℤ, Bool, true, false, not, ◌&&◌, ◌==◌, nat_le, List, [], ◌∷◌, length, Option, Some, None, is_some, unwrap_or, fold, if◌then◌else◌}
use Rattle.std.specs.Option.{option_or}
use Rattle.std.specs.List.{list_any}
use Rattle.std.specs.Str.{bytes_eq}
use Rattle.toml.specs.Data.{Data, Members, no_members, member, as_str, as_integer, as_array, as_table}
use Rattle.toml.specs.Text.{has_items}
use Rattle.cs_base.specs.Names.{is_name}
use Rattle.topology_file.specs.declared.form.Form.{Form}
use Rattle.topology_file.specs.declared.form.Form.TheVariants as form
use Rattle.topology_file.specs.declared.form.Absent.{Absent}
use Rattle.topology_file.specs.declared.form.Absent.TheVariants as absent
use Rattle.topology_file.specs.declared.form.Kind.{Kind}
use Rattle.topology_file.specs.declared.form.Kind.TheVariants as kind
use Rattle.topology_file.specs.declared.key.Key.{Key}
use Rattle.topology_file.specs.declared.key.Key.TheVariants as key
use Rattle.topology_file.specs.declared.reason.TopoReason.{TopoReason}
use Rattle.topology_file.specs.declared.reason.TopoReason.TheVariants.{UnknownKey, Missing, WrongType, Range, BadName, NameTwice, BadMac, TooMany}
use Rattle.topology_file.specs.Keys.{row, top_keys, component_keys}
use Rattle.topology_file.specs.Reasons.{lesser, least}
use Rattle.topology_file.specs.Macs.{mac_of, is_station}
use Rattle.topology_file.specs.Ports.{is_among}
use Rattle.topology_file.specs.Fields.{at, whole_of, number_at, text_at, elements_at, kind_named, kind_at, via_named}

-- a fault that is there where a test fails
abbrev pub unless : Bool → TopoReason → Option TopoReason
unless true reason = None
unless false reason = Some reason

-- a value of another type than is due; else what is wrong with its content
abbrev pub typed : {T : Type 0} → Option T → (T → Option TopoReason) → Option TopoReason
typed None fault = Some WrongType
typed (Some content) fault = fault content

abbrev number_passes : Option ℕ → (ℕ → Bool) → Bool
number_passes None test = false
number_passes (Some n) test = test n

abbrev pub is_within : ℕ → ℕ → ℤ → Bool
is_within least_number most z = number_passes (whole_of z) (λ n. nat_le least_number n && nat_le n most)

abbrev pub is_four_within : ℕ → ℕ → ℤ → Bool
is_four_within least_number most z = number_passes (whole_of z) (λ n. nat_le least_number n && nat_le n most && ((n % 4) == 0))

abbrev pub is_file_name : List ℕ → Bool
is_file_name text = nat_le 1 (length text) && nat_le (length text) 255

-- what is wrong with a value of a form
abbrev pub value_fault : Form → Data → Option TopoReason
value_fault (form.Whole least_number most) d = typed (as_integer d) (λ z. unless (is_within least_number most z) Range)
value_fault (form.Fours least_number most) d = typed (as_integer d) (λ z. unless (is_four_within least_number most z) Range)
value_fault form.Text d = typed (as_str d) (λ _. None)
value_fault form.Name d = typed (as_str d) (λ text. unless (is_name text) BadName)
value_fault form.FileName d = typed (as_str d) (λ text. unless (is_file_name text) Range)
value_fault form.Kind d = typed (as_str d) (λ text. unless (is_some (kind_named text)) Range)
value_fault form.Via d = typed (as_str d) (λ text. unless (is_some (via_named text)) Range)
value_fault form.Mac d = typed (as_str d) (λ text. unless (is_some (mac_of text)) BadMac)
value_fault form.Individual d = typed (as_str d) (λ text. unless (is_station text) BadMac)
value_fault form.Entries d = typed (as_array d) (λ _. None)
value_fault form.SomeEntries d = typed (as_array d) (λ elements. unless (has_items elements) Missing)

abbrev pub absent_fault : Absent → Option TopoReason
absent_fault absent.Fault = Some Missing
absent_fault _ = None

abbrev pub found_fault : Form → Absent → Option Data → Option TopoReason
found_fault form absent None = absent_fault absent
found_fault form absent (Some d) = value_fault form d

-- what is wrong with a key: a required one is absent, or its value is at fault
abbrev pub key_fault : Data → Key → Option TopoReason
key_fault d key = found_fault (row key).form (row key).absent (at d key)

-- the least fault of some keys
abbrev pub keys_fault : List Key → Data → Option TopoReason
keys_fault keys d = fold (λ found key. lesser found (key_fault d key)) None keys

abbrev pub is_key : List Key → List ℕ → Bool
is_key keys name = list_any (λ key. bytes_eq (row key).text name) keys

-- a table has no keys but these
abbrev pub are_known : List Key → Members → Bool
are_known keys no_members = true
are_known keys (member name d rest) = is_key keys name && are_known keys rest

abbrev pub unknown_fault : List Key → Data → Option TopoReason
unknown_fault keys d = unless (are_known keys (unwrap_or (as_table d) no_members)) UnknownKey

-- what is wrong with a table that may have these keys, beside what they say of other entries
abbrev pub own_fault : List Key → Data → Option TopoReason
own_fault keys d = lesser (unknown_fault keys d) (keys_fault keys d)

-- ---- the document

-- there are at most 64 components and 1,024 links
abbrev pub size_fault : Data → Option TopoReason
size_fault d = unless (nat_le (length (elements_at d key.Components)) 64 && nat_le (length (elements_at d key.Links)) 1024) TooMany

abbrev pub top_fault : Data → Option TopoReason
top_fault d = lesser (own_fault top_keys d) (size_fault d)

-- ---- a component, after others of these names

-- a host has at most 32 ports
abbrev pub ports_fault : Kind → Data → Option TopoReason
ports_fault kind.Host d = unless (nat_le (number_at d key.Pcie + number_at d key.Mem) 32) Range
ports_fault _ d = None

abbrev pub name_fault : List (List ℕ) → Data → Option TopoReason
name_fault names d = unless (not (is_among (text_at d key.Name) names)) NameTwice

abbrev pub kind_faults : Kind → List (List ℕ) → Data → Option TopoReason
kind_faults kind names d = least (own_fault (component_keys kind) d ∷ ports_fault kind d ∷ name_fault names d ∷ [])

abbrev pub is_table : Data → Bool
is_table d = is_some (as_table d)

-- the kind is tried first, since the other keys depend on it
abbrev pub component_fault : List (List ℕ) → Data → Option TopoReason
component_fault names d =
    if is_table d then option_or (key_fault d key.Kind) (kind_faults (kind_at d) names d) else Some WrongType
