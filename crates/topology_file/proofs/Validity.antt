-- What an entry without a fault says can be set up.
use Rattle.std.proofs.Common.{◌≡◌, ℕ, ◌+◌, ◌%◌, ◌<◌, ◌≤◌, Bool, true, false, ◌&&◌, nat_le, cond, ℤ, pos, negsuc, List, [], length, replicate, Option, Some, None, refl, arith, lit≤}
use Rattle.std.specs.Prelude.{option_and_then, option_map, unwrap_or, ◌==◌}
use Rattle.std.specs.Option.{option_or}
use Rattle.std.proofs.lemmas.Bool.{false≢true, and_parts}
use Rattle.std.proofs.lemmas.Bool.Decides.{nat_tests}
use Rattle.toml.specs.Data.{Data, no_items, item, string, integer, float, boolean, datetime, array, table, as_str, as_array}
use Rattle.cs_base.specs.Names.{is_name, is_individual}
use Rattle.topology_file.specs.declared.form.Form.TheVariants as form
use Rattle.topology_file.specs.declared.form.Absent.TheVariants as absent
use Rattle.topology_file.specs.declared.form.Kind.{Kind}
use Rattle.topology_file.specs.declared.form.Kind.TheVariants as kind
use Rattle.topology_file.specs.declared.key.Key.TheVariants as key
use Rattle.topology_file.specs.declared.reason.TopoReason.TheVariants.{WrongType}
use Rattle.topology_file.specs.Keys.{top_keys, component_keys, link_keys}
use Rattle.topology_file.specs.Macs.{mac_of, individual_or_none}
use Rattle.topology_file.specs.Fields.{at, whole, whole_of, number_at, text_at, kind_at, elements_at, list_of}
use Rattle.topology_file.specs.Faults.{found_fault, value_fault, key_fault, is_four_within, is_file_name, own_fault, unknown_fault, keys_fault, ports_fault, name_fault, kind_faults, component_fault, is_table, size_fault, top_fault}
use Rattle.topology_file.specs.Links.{link_between}
use Rattle.topology_file.specs.Seats.{HasSeats}
use Rattle.topology_file.specs.Valid.{IsValidAs, IsValidComponent, IsValidLink, IsValidTop}
use Rattle.topology_file.proofs.Sound.{AreSound, keys_sound, lesser_none, or_none, unless_none, within_data, required_within, optional_within, number_found}

-- ---- values

pub record IsFourWithin (least most n : ℕ) : Type 0 where
  pub above : least ≤ n
  pub below : n ≤ most
  pub four : n % 4 ≡ 0

four_number : (least most n : ℕ) → (nat_le least n && nat_le n most && ((n % 4) == 0)) ≡ true → IsFourWithin least most n
four_number least most n holds =
    let (within, four) = and_parts (nat_le least n && nat_le n most) ((n % 4) == 0) holds in
    let (above, below) = and_parts (nat_le least n) (nat_le n most) within in
    record { above = grind (arith, nat_tests); below = grind (arith, nat_tests); four = grind (arith, nat_tests) }

four_value : (least most : ℕ) (z : ℤ) (usual : ℕ) → is_four_within least most z ≡ true → IsFourWithin least most (unwrap_or (whole_of z) usual)
four_value least most (pos n) usual holds = four_number least most n holds
four_value least most (negsuc n) usual holds = absurd (false≢true holds)

four_data : (least most : ℕ) (d : Data) (usual : ℕ) → value_fault (form.Fours least most) d ≡ None → IsFourWithin least most (unwrap_or (whole d) usual)
four_data least most (integer z) usual none = four_value least most z usual (unless_none _ _ none)
four_data least most (string s) usual none = cc
four_data least most (float x) usual none = cc
four_data least most (boolean b) usual none = cc
four_data least most (datetime t) usual none = cc
four_data least most (array ds) usual none = cc
four_data least most (table ms) usual none = cc

four_within : (least most : ℕ) (o : Option Data) → found_fault (form.Fours least most) absent.Fault o ≡ None → IsFourWithin least most (number_found absent.Fault o)
four_within least most None none = cc
four_within least most (Some d) none = four_data least most d 0 none

abbrev text_found : Option Data → List ℕ
text_found o = unwrap_or (option_and_then as_str o) []

name_data : (d : Data) → value_fault form.Name d ≡ None → is_name (unwrap_or (as_str d) []) ≡ true
name_data (string s) none = unless_none _ _ none
name_data (integer z) none = cc
name_data (float x) none = cc
name_data (boolean b) none = cc
name_data (datetime t) none = cc
name_data (array ds) none = cc
name_data (table ms) none = cc

name_found : (o : Option Data) → found_fault form.Name absent.Fault o ≡ None → is_name (text_found o) ≡ true
name_found None none = cc
name_found (Some d) none = name_data d none

file_name_data : (d : Data) → value_fault form.FileName d ≡ None → is_file_name (unwrap_or (as_str d) []) ≡ true
file_name_data (string s) none = unless_none _ _ none
file_name_data (integer z) none = cc
file_name_data (float x) none = cc
file_name_data (boolean b) none = cc
file_name_data (datetime t) none = cc
file_name_data (array ds) none = cc
file_name_data (table ms) none = cc

file_name_found : (o : Option Data) → found_fault form.FileName absent.Fault o ≡ None → is_file_name (text_found o) ≡ true
file_name_found None none = cc
file_name_found (Some d) none = file_name_data d none

individual_mac : (m : Option (List ℕ)) → individual_or_none m ≡ true → is_individual (unwrap_or m (replicate 6 255)) ≡ true
individual_mac None holds = absurd (false≢true holds)
individual_mac (Some mac) holds = holds

station_data : (d : Data) → value_fault form.Individual d ≡ None → is_individual (unwrap_or (mac_of (unwrap_or (as_str d) [])) (replicate 6 255)) ≡ true
station_data (string s) none = individual_mac (mac_of s) (unless_none _ _ none)
station_data (integer z) none = cc
station_data (float x) none = cc
station_data (boolean b) none = cc
station_data (datetime t) none = cc
station_data (array ds) none = cc
station_data (table ms) none = cc

station_found : (o : Option Data) → found_fault form.Individual absent.Fault o ≡ None → is_individual (unwrap_or (mac_of (text_found o)) (replicate 6 255)) ≡ true
station_found None none = cc
station_found (Some d) none = station_data d none

interval_found : (least most latency : ℕ) (o : Option Data) → least ≤ latency → found_fault (form.Whole least most) absent.Usual o ≡ None → least ≤ unwrap_or (option_and_then whole o) latency
interval_found least most latency None above none = above
interval_found least most latency (Some d) above none = (within_data least most d latency none).above

-- ---- components

valid_beacon : (d : Data) → AreSound d (component_keys kind.Beacon) → IsValidAs kind.Beacon d
valid_beacon d (_, (_, (first, (period, (count, (length_, (_, (from, _)))))))) =
    let first_in = optional_within 0 1000000000000000 0 (at d key.First) (lit≤ tt) (lit≤ tt) first in
    let period_in = optional_within 1 1000000000000000 1000000 (at d key.Period) (lit≤ tt) (lit≤ tt) period in
    let count_in = required_within 0 1000000000 (at d key.Count) count in
    let length_in = optional_within 14 1514 60 (at d key.Length) (lit≤ tt) (lit≤ tt) length_ in
    record {
      first_in_time = first_in.below;
      some_period = period_in.above;
      period_in_time = period_in.below;
      few = count_in.below;
      a_frame = length_in.above;
      no_jumbo = length_in.below;
      individual = station_found (at d key.From) from;
    }

valid_switch : (d : Data) → AreSound d (component_keys kind.Switch) → IsValidAs kind.Switch d
valid_switch d (_, (_, (ports, (age, _)))) =
    let ports_in = required_within 0 32 (at d key.Ports) ports in
    let age_in = optional_within 1 1000000000000000 300000000000000 (at d key.Age) (lit≤ tt) (lit≤ tt) age in
    record { few_ports = ports_in.below; some_age = age_in.above; age_in_time = age_in.below }

valid_memory : (d : Data) → AreSound d (component_keys kind.Memory) → IsValidAs kind.Memory d
valid_memory d (_, (_, (size, _))) =
    let size_in = required_within 1 16777216 (at d key.Size) size in
    record { some_byte = size_in.above; in_window = size_in.below }

valid_host : (d : Data) → AreSound d (component_keys kind.Host) → ports_fault kind.Host d ≡ None → IsValidAs kind.Host d
valid_host d (_, (_, (ram, (cycle, (_, (_, (hart, (image, _)))))))) ports =
    let ram_in = four_within 65536 16777216 (at d key.Ram) ram in
    let cycle_in = optional_within 1 1000000000 10000 (at d key.Cycle) (lit≤ tt) (lit≤ tt) cycle in
    let hart_in = optional_within 0 4294967295 0 (at d key.Hart) (lit≤ tt) (lit≤ tt) hart in
    let few : nat_le (number_at d key.Pcie + number_at d key.Mem) 32 ≡ true = unless_none _ _ ports in
    let (some_name, short_name) = and_parts (nat_le 1 (length (text_at d key.Image))) (nat_le (length (text_at d key.Image)) 255) (file_name_found (at d key.Image) image) in
    record {
      host = record {
        some_ram = ram_in.above;
        ram_in_range = ram_in.below;
        whole_words = ram_in.four;
        some_cycle = cycle_in.above;
        short_cycle = cycle_in.below;
        few_ports = grind (arith, nat_tests);
        named_image = grind (arith, nat_tests);
        short_image = grind (arith, nat_tests);
      };
      hart = hart_in.below;
    }

valid_nic : (d : Data) → AreSound d (component_keys kind.Nic) → IsValidAs kind.Nic d
valid_nic d (_, (_, (mac, _))) = station_found (at d key.Mac) mac

valid_as : (kind : Kind) (d : Data) → AreSound d (component_keys kind) → ports_fault kind d ≡ None → IsValidAs kind d
valid_as kind.Beacon d sound ports = valid_beacon d sound
valid_as kind.Switch d sound ports = valid_switch d sound
valid_as kind.Memory d sound ports = valid_memory d sound
valid_as kind.Host d sound ports = valid_host d sound ports
valid_as kind.Nic d sound ports = valid_nic d sound

named : (kind : Kind) (d : Data) → AreSound d (component_keys kind) → is_name (text_at d key.Name) ≡ true
named kind.Beacon d sound = name_found (at d key.Name) sound.0
named kind.Switch d sound = name_found (at d key.Name) sound.0
named kind.Memory d sound = name_found (at d key.Name) sound.0
named kind.Host d sound = name_found (at d key.Name) sound.0
named kind.Nic d sound = name_found (at d key.Name) sound.0

pub passed : {T : Type 0} (b : Bool) (o : Option T) (x : T) → cond b o (Some x) ≡ None → (b ≡ true) × (o ≡ None)
passed true o x none = (refl, none)
passed false o x none = cc

-- a component without a fault
pub record IsFaultless (names : List (List ℕ)) (d : Data) : Type 0 where
  pub valid : IsValidComponent d
  pub new : name_fault names d ≡ None

pub faultless : (names : List (List ℕ)) (d : Data) → component_fault names d ≡ None → IsFaultless names d
faultless names d none =
    let (_, faults) = passed (is_table d) (option_or (key_fault d key.Kind) (kind_faults (kind_at d) names d)) WrongType none in
    let (_, kind_none) = or_none (key_fault d key.Kind) (kind_faults (kind_at d) names d) faults in
    let (two, name_none) = lesser_none _ (name_fault names d) kind_none in
    let (own, ports) = lesser_none (own_fault (component_keys (kind_at d)) d) (ports_fault (kind_at d) d) two in
    let (_, keys) = lesser_none (unknown_fault (component_keys (kind_at d)) d) (keys_fault (component_keys (kind_at d)) d) own in
    let sound = (keys_sound d (component_keys (kind_at d)) None keys).1 in
    record { valid = record { named = named (kind_at d) d sound; config = valid_as (kind_at d) d sound ports }; new = name_none }

-- ---- links

pub valid_link : (d : Data) → own_fault link_keys d ≡ None → IsValidLink d
valid_link d none =
    let (_, keys) = lesser_none (unknown_fault link_keys d) (keys_fault link_keys d) none in
    let (_, (a_port, (_, (b_port, (latency, (interval, (slots, _))))))) = (keys_sound d link_keys None keys).1 in
    let latency_in = required_within 1 1000000000000 (at d key.Latency) latency in
    let slots_in = optional_within 1 1024 64 (at d key.Slots) (lit≤ tt) (lit≤ tt) slots in
    record {
      a_port = (optional_within 0 31 0 (at d key.APort) (lit≤ tt) (lit≤ tt) a_port).below;
      b_port = (optional_within 0 31 0 (at d key.BPort) (lit≤ tt) (lit≤ tt) b_port).below;
      short_latency = latency_in.below;
      some_interval = interval_found 1 1000000000000 (number_at d key.Latency) (at d key.Interval) latency_in.above interval;
      some_slot = slots_in.above;
      few_slots = slots_in.below;
    }

-- ---- the document

some_elements : (d : Data) → value_fault form.SomeEntries d ≡ None → 1 ≤ length (unwrap_or (option_map list_of (as_array d)) [])
some_elements (array no_items) none = cc
some_elements (array (item d ds)) none = omega arith
some_elements (string s) none = cc
some_elements (integer z) none = cc
some_elements (float x) none = cc
some_elements (boolean b) none = cc
some_elements (datetime t) none = cc
some_elements (table ms) none = cc

some_found : (o : Option Data) → found_fault form.SomeEntries absent.Fault o ≡ None → 1 ≤ length (unwrap_or (option_map list_of (option_and_then as_array o)) [])
some_found None none = cc
some_found (Some d) none = some_elements d none

pub valid_top : (d : Data) → top_fault d ≡ None → IsValidTop d
valid_top d none =
    let (own, size) = lesser_none (own_fault top_keys d) (size_fault d) none in
    let (_, keys) = lesser_none (unknown_fault top_keys d) (keys_fault top_keys d) own in
    let (_, (end, (components, _))) = (keys_sound d top_keys None keys).1 in
    let end_in = required_within 1 1000000000000000 (at d key.End) end in
    let (few_components, few_links) = and_parts (nat_le (length (elements_at d key.Components)) 64) (nat_le (length (elements_at d key.Links)) 1024) (unless_none _ _ size) in
    record {
      some_time = end_in.above;
      short_time = end_in.below;
      some_component = some_found (at d key.Components) components;
      few_components = grind (arith, nat_tests);
      few_links = grind (arith, nat_tests);
    }

-- a link without a fault has its places in the table of ports
pub seats_between : (a b : ℕ) (d : Data) → a < 64 → b < 64 → IsValidLink d → HasSeats (link_between a b d)
seats_between a b d a_in b_in valid = record { a = a_in; a_port = omega (arith, valid.a_port); b = b_in; b_port = omega (arith, valid.b_port) }
