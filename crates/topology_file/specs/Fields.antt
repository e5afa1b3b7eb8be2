-- What an entry of a topology file says: the values of its keys, with what stands for the absent ones.
use Rattle.std.specs.Prelude.{ℕ, ℤ, pos, negsuc, List, [], ◌∷◌, codes, Option, Some, None, option_map, option_and_then, unwrap_or, replicate, if◌then◌else◌}
use Rattle.std.specs.Str.{bytes_eq}
use Rattle.toml.specs.Data.{Data, Items, no_items, item, get, as_str, as_integer, as_array}
use Rattle.cs_base.specs.declared.port_kind.Via.{Via}
use Rattle.cs_base.specs.declared.port_kind.Via.TheVariants.{Queue, Proxy}
use Rattle.topology_file.specs.declared.form.Absent.{Absent}
use Rattle.topology_file.specs.declared.form.Absent.TheVariants.{Number}
use Rattle.topology_file.specs.declared.form.Kind.{Kind}
use Rattle.topology_file.specs.declared.form.Kind.TheVariants as kind
use Rattle.topology_file.specs.declared.key.Key.{Key}
use Rattle.topology_file.specs.declared.key.Key.TheVariants as key
use Rattle.topology_file.specs.Keys.{row}
use Rattle.topology_file.specs.Macs.{mac_of}

-- the value of a key, where the key is there
abbrev pub at : Data → Key → Option Data
at d key = get (row key).text d

abbrev pub whole_of : ℤ → Option ℕ
whole_of (pos n) = Some n
whole_of (negsuc n) = None

abbrev pub whole : Data → Option ℕ
whole d = option_and_then whole_of (as_integer d)

abbrev pub usual_number : Absent → ℕ
usual_number (Number n) = n
usual_number _ = 0

abbrev pub number_at : Data → Key → ℕ
number_at d key = unwrap_or (option_and_then whole (at d key)) (usual_number (row key).absent)

abbrev pub text_at : Data → Key → List ℕ
text_at d key = unwrap_or (option_and_then as_str (at d key)) []

abbrev pub mac_at : Data → Key → List ℕ
mac_at d key = unwrap_or (mac_of (text_at d key)) (replicate 6 255)

abbrev pub list_of : Items → List Data
list_of no_items = []
list_of (item d ds) = d ∷ list_of ds

-- the elements of the array of a key
abbrev pub elements_at : Data → Key → List Data
elements_at d key = unwrap_or (option_map list_of (option_and_then as_array (at d key))) []

abbrev pub kind_named : List ℕ → Option Kind
kind_named text =
    if bytes_eq text (codes "beacon") then Some kind.Beacon
    else if bytes_eq text (codes "switch") then Some kind.Switch
    else if bytes_eq text (codes "memory") then Some kind.Memory
    else if bytes_eq text (codes "host") then Some kind.Host
    else if bytes_eq text (codes "nic") then Some kind.Nic
    else None

abbrev pub via_named : List ℕ → Option Via
via_named text =
    if bytes_eq text (codes "queue") then Some Queue
    else if bytes_eq text (codes "proxy") then Some Proxy
    else None

abbrev pub kind_at : Data → Kind
kind_at d = unwrap_or (kind_named (text_at d key.Kind)) kind.Beacon

-- a link goes by queue where it doesn't say
abbrev pub via_at : Data → Via
via_at d = unwrap_or (via_named (text_at d key.Via)) Queue

-- a link's interval is its latency where it doesn't say
abbrev pub interval_at : Data → ℕ
interval_at d = unwrap_or (option_and_then whole (at d key.Interval)) (number_at d key.Latency)
