-- An address is read from the text that is written of it.
use Rattle.std.proofs.Common.{◌≡◌, ℕ, ◌+◌, ◌*◌, ◌/◌, ◌%◌, ◌<◌, ◌≤◌, false, List, [], ◌∷◌, Some, ap, arith}
use Rattle.std.specs.Prelude.{option_map, option_and_then}
use Rattle.std.specs.Fmt.{digit_glyph}
use Rattle.std.specs.List.{AllByRecursion}
use Rattle.std.proofs.lemmas.Bool.Decides.{nat_tests}
use Rattle.std.proofs.lemmas.List.Elements.{recursion_from_All}
use Rattle.cs_base.specs.Names.{IsAddress}
use Rattle.cs_base.specs.Texts.{mac_text}
use Rattle.cs_base.specs.Texts.{hexadecimal_value}
use Rattle.topology_file.specs.Macs.{pair_at, has_colons, six_pairs, mac_of}

decimal_digit : (v : ℕ) → v < 10 → hexadecimal_value (48 + v) ≡ Some v
decimal_digit v small = grind (arith, nat_tests)

letter : (v : ℕ) → 10 ≤ v → v < 16 → hexadecimal_value (87 + v) ≡ Some v
letter v large small = grind (arith, nat_tests)

digit : (v : ℕ) → v < 16 → hexadecimal_value (digit_glyph false v) ≡ Some v
digit v small = grind (arith, nat_tests, decimal_digit, letter)

both_digits : (byte : ℕ) → byte < 256 → option_and_then (λ high. option_map (λ low. high * 16 + low) (hexadecimal_value (digit_glyph false (byte % 16)))) (hexadecimal_value (digit_glyph false (byte / 16))) ≡ Some byte
both_digits byte small =
    let parts : (byte / 16) * 16 + byte % 16 ≡ byte = omega arith in
    rw (digit (byte / 16) (omega arith), digit (byte % 16) (omega arith)) (ap Some parts)

six_bytes : (a b c d e f : ℕ) → AllByRecursion (λ byte. byte < 256) (a ∷ b ∷ c ∷ d ∷ e ∷ f ∷ []) → mac_of (mac_text (a ∷ b ∷ c ∷ d ∷ e ∷ f ∷ [])) ≡ Some (a ∷ b ∷ c ∷ d ∷ e ∷ f ∷ [])
unfolding mac_of six_pairs has_colons pair_at
six_bytes a b c d e f bytes =
    rw (both_digits a bytes.0, both_digits b bytes.1.0, both_digits c bytes.1.1.0, both_digits d bytes.1.1.1.0, both_digits e bytes.1.1.1.1.0, both_digits f bytes.1.1.1.1.1.0)

pub mac_of-mac_text : (mac : List ℕ) → IsAddress mac → mac_of (mac_text mac) ≡ Some mac
mac_of-mac_text (a ∷ b ∷ c ∷ d ∷ e ∷ f ∷ []) address = six_bytes a b c d e f (recursion_from_All (λ (byte : ℕ). byte < 256) (a ∷ b ∷ c ∷ d ∷ e ∷ f ∷ []) address.bytes)
mac_of-mac_text mac address = absurd (omega (arith, address.six))
