-- An entry with no fault: each of its keys is there or has a usual value, and the values are within their ranges.
use Rattle.std.proofs.Common.{◌≡◌, ℕ, ◌≤◌, Bool, true, false, ◌&&◌, nat_le, cond, ℤ, pos, negsuc, List, [], ◌∷◌, Option, Some, None, fold, refl, arith}
use Rattle.std.specs.Prelude.{option_and_then, unwrap_or}
use Rattle.std.specs.Option.{option_or}
use Rattle.std.specs.List.{AllByRecursion}
use Rattle.std.proofs.lemmas.Bool.{false≢true, and_parts}
use Rattle.std.proofs.lemmas.Bool.Decides.{nat_tests}
use Rattle.toml.specs.Data.{Data, string, integer, float, boolean, datetime, array, table}
use Rattle.topology_file.specs.declared.form.Form.TheVariants as form
use Rattle.topology_file.specs.declared.form.Absent.{Absent}
use Rattle.topology_file.specs.declared.form.Absent.TheVariants as absent
use Rattle.topology_file.specs.declared.key.Key.{Key}
use Rattle.topology_file.specs.declared.reason.TopoReason.{TopoReason}
use Rattle.topology_file.specs.Reasons.{lesser}
use Rattle.topology_file.specs.Fields.{whole, whole_of, usual_number}
use Rattle.topology_file.specs.Faults.{unless, found_fault, value_fault, key_fault, is_within}

chosen_some : (b : Bool) (r s : TopoReason) → cond b (Some r) (Some s) ≡ None → ⊥
chosen_some true r s none = cc
chosen_some false r s none = cc

pub lesser_none : (a b : Option TopoReason) → lesser a b ≡ None → (a ≡ None) × (b ≡ None)
lesser_none None b none = (refl, none)
lesser_none (Some r) None none = cc
lesser_none (Some r) (Some s) none = absurd (chosen_some _ r s none)

pub or_none : {T : Type 0} (a b : Option T) → option_or a b ≡ None → (a ≡ None) × (b ≡ None)
or_none None b none = (refl, none)
or_none (Some x) b none = cc

pub unless_none : (b : Bool) (r : TopoReason) → unless b r ≡ None → b ≡ true
unless_none true r none = refl
unless_none false r none = cc

-- no key is at fault
abbrev pub AreSound : Data → List Key → Type 0
AreSound d keys = AllByRecursion (λ key. key_fault d key ≡ None) keys

pub keys_sound : (d : Data) (keys : List Key) (found : Option TopoReason) → fold (λ found key. lesser found (key_fault d key)) found keys ≡ None → (found ≡ None) × AreSound d keys
keys_sound d [] found none = (none, tt)
keys_sound d (key ∷ keys) found none =
    let (here, rest) = keys_sound d keys (lesser found (key_fault d key)) none in
    let (before, this) = lesser_none found (key_fault d key) here in
    (before, (this, rest))

pub record IsWithin (least most n : ℕ) : Type 0 where
  pub above : least ≤ n
  pub below : n ≤ most

abbrev pub number_found : Absent → Option Data → ℕ
number_found absent o = unwrap_or (option_and_then whole o) (usual_number absent)

within_number : (least most n : ℕ) → (nat_le least n && nat_le n most) ≡ true → IsWithin least most n
within_number least most n holds =
    let (above, below) = and_parts (nat_le least n) (nat_le n most) holds in
    record { above = grind (arith, nat_tests); below = grind (arith, nat_tests) }

within_value : (least most : ℕ) (z : ℤ) (usual : ℕ) → is_within least most z ≡ true → IsWithin least most (unwrap_or (whole_of z) usual)
within_value least most (pos n) usual holds = within_number least most n holds
within_value least most (negsuc n) usual holds = absurd (false≢true holds)

pub within_data : (least most : ℕ) (d : Data) (usual : ℕ) → value_fault (form.Whole least most) d ≡ None → IsWithin least most (unwrap_or (whole d) usual)
within_data least most (integer z) usual none = within_value least most z usual (unless_none _ _ none)
within_data least most (string s) usual none = cc
within_data least most (float x) usual none = cc
within_data least most (boolean b) usual none = cc
within_data least most (datetime t) usual none = cc
within_data least most (array ds) usual none = cc
within_data least most (table ms) usual none = cc

-- the number of a key with no fault is in its range
pub required_within : (least most : ℕ) (o : Option Data) → found_fault (form.Whole least most) absent.Fault o ≡ None → IsWithin least most (number_found absent.Fault o)
required_within least most None none = cc
required_within least most (Some d) none = within_data least most d 0 none

pub optional_within : (least most usual : ℕ) (o : Option Data) → least ≤ usual → usual ≤ most → found_fault (form.Whole least most) (absent.Number usual) o ≡ None → IsWithin least most (number_found (absent.Number usual) o)
optional_within least most usual None above below none = record { above = above; below = below }
optional_within least most usual (Some d) above below none = within_data least most d usual none
