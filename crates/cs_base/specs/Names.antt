-- The names of components, and individual addresses.
use Rattle.std.specs.Prelude.{ℕ, ◌≡◌, ◌<◌, ◌%◌, Bool, ◌&&◌, ◌||◌, ◌==◌, nat_le, List, length, slice_index, All}
use Rattle.std.specs.List.{list_all}

-- a byte of a name: `a` to `z`, `0` to `9` or `_`
abbrev pub is_name_byte : ℕ → Bool
is_name_byte b = (nat_le 97 b && nat_le b 122) || (nat_le 48 b && nat_le b 57) || (b == 95)

-- a name has 1 to 16 such bytes
abbrev pub is_name : List ℕ → Bool
is_name bytes = nat_le 1 (length bytes) && nat_le (length bytes) 16 && list_all is_name_byte bytes

-- an Ethernet address is individual where bit 0 of its first byte, the group bit, is 0 (IEEE 802)
abbrev pub is_individual : List ℕ → Bool
is_individual mac = (slice_index mac 0 % 2) == 0

-- an Ethernet address is six bytes
pub record IsAddress (mac : List ℕ) : Type 0 where
  pub six : length mac ≡ 6
  pub bytes : All (λ (byte : ℕ). byte < 256) mac
