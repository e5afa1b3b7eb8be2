-- How an Ethernet address is read: six pairs of hexadecimal digits, of either case, with colons between them.
use Rattle.std.specs.Prelude.{ℕ, ◌+◌, ◌*◌, Bool, false, ◌&&◌, ◌==◌, List, [], ◌∷◌, length, slice_index, Option, Some, None, option_map, option_and_then, if◌then◌else◌}
use Rattle.cs_base.specs.Names.{is_individual}
use Rattle.cs_base.specs.Texts.{hexadecimal_value}

infixl 10 ◌>>=◌
abbrev ◌>>=◌ : {A B : Type 0} → Option A → (A → Option B) → Option B
o >>= f = option_and_then f o

-- the byte that the two digits from a place on stand for
unfoldable pub pair_at : List ℕ → ℕ → Option ℕ
pair_at text place =
    hexadecimal_value (slice_index text place) >>= (λ high. option_map (λ low. high * 16 + low) (hexadecimal_value (slice_index text (place + 1))))

abbrev pub is_colon : List ℕ → ℕ → Bool
is_colon text place = slice_index text place == 58

unfoldable pub has_colons : List ℕ → Bool
has_colons text = is_colon text 2 && is_colon text 5 && is_colon text 8 && is_colon text 11 && is_colon text 14

unfoldable pub six_pairs : List ℕ → Option (List ℕ)
six_pairs text = do
  a ← pair_at text 0
  b ← pair_at text 3
  c ← pair_at text 6
  d ← pair_at text 9
  e ← pair_at text 12
  f ← pair_at text 15
  Some (a ∷ b ∷ c ∷ d ∷ e ∷ f ∷ [])

-- the address that a text is, if it is one
unfoldable pub mac_of : List ℕ → Option (List ℕ)
mac_of text = if (length text == 17) && has_colons text then six_pairs text else None

abbrev pub individual_or_none : Option (List ℕ) → Bool
individual_or_none None = false
individual_or_none (Some mac) = is_individual mac

-- the text is the address of one station
abbrev pub is_station : List ℕ → Bool
is_station text = individual_or_none (mac_of text)
