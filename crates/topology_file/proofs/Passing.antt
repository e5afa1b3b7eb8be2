-- Values and keys without a fault.
use Rattle.std.proofs.Common.{◌≡◌, ℕ, ◌%◌, ◌≤◌, true, nat_le, List, [], ◌∷◌, length, Option, None, fold, refl, ap, ◌∙◌, arith}
use Rattle.std.specs.Option.{option_or}
use Rattle.std.proofs.lemmas.Bool.Decides.{nat_tests}
use Rattle.toml.specs.Data.{Data, string}
use Rattle.cs_base.specs.Names.{is_name, is_individual, IsAddress}
use Rattle.topology_file.specs.declared.form.Form.TheVariants as form
use Rattle.topology_file.specs.declared.key.Key.{Key}
use Rattle.topology_file.specs.declared.reason.TopoReason.{TopoReason}
use Rattle.topology_file.specs.Reasons.{lesser, least}
use Rattle.topology_file.specs.Faults.{value_fault, key_fault, keys_fault, unknown_fault, own_fault}
use Rattle.topology_file.specs.Full.{number, address}
use Rattle.topology_file.proofs.Sound.{AreSound}
use Rattle.topology_file.proofs.MacsWritten.{mac_of-mac_text}

pub nat_passes : (m n : ℕ) → m ≤ n → nat_le m n ≡ true
nat_passes m n below = grind (arith, nat_tests)

pub within_passes : (least_number most n : ℕ) → least_number ≤ n → n ≤ most → value_fault (form.Whole least_number most) (number n) ≡ None
within_passes least_number most n above below = rw (nat_passes least_number n above, nat_passes n most below)

pub fours_pass : (least_number most n : ℕ) → least_number ≤ n → n ≤ most → n % 4 ≡ 0 → value_fault (form.Fours least_number most) (number n) ≡ None
fours_pass least_number most n above below four = rw (nat_passes least_number n above, nat_passes n most below, four)

pub name_passes : (name : List ℕ) → is_name name ≡ true → value_fault form.Name (string name) ≡ None
name_passes name named = rw named

pub file_name_passes : (text : List ℕ) → 1 ≤ length text → length text ≤ 255 → value_fault form.FileName (string text) ≡ None
file_name_passes text some short = rw (nat_passes 1 (length text) some, nat_passes (length text) 255 short)

pub mac_passes : (mac : List ℕ) → IsAddress mac → value_fault form.Mac (address mac) ≡ None
mac_passes mac is_address = rw (mac_of-mac_text mac is_address)

pub station_passes : (mac : List ℕ) → IsAddress mac → is_individual mac ≡ true → value_fault form.Individual (address mac) ≡ None
station_passes mac is_address individual = rw (mac_of-mac_text mac is_address, individual)

keys_pass : (d : Data) (keys : List Key) → AreSound d keys → keys_fault keys d ≡ None
keys_pass d [] sound = refl
keys_pass d (key ∷ keys) sound =
    ap (λ fault. fold (λ found key. lesser found (key_fault d key)) fault keys) sound.0 ∙ keys_pass d keys sound.1

-- an entry with no other keys, and no fault at any of them
pub own_passes : (keys : List Key) (d : Data) → unknown_fault keys d ≡ None → AreSound d keys → own_fault keys d ≡ None
own_passes keys d known sound = ap (λ fault. lesser fault (keys_fault keys d)) known ∙ keys_pass d keys sound

pub all_pass : (a b c : Option TopoReason) → a ≡ None → b ≡ None → c ≡ None → least (a ∷ b ∷ c ∷ []) ≡ None
all_pass a b c first second third = rw (first, second, third)

pub none_or : {T : Type 0} (a b : Option T) → a ≡ None → b ≡ None → option_or a b ≡ None
none_or a b first second = ap (λ fault. option_or fault b) first ∙ second
