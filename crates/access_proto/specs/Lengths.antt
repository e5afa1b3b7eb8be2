-- How many bytes an access is of.
use Rattle.std.specs.Prelude.{ℕ, ◌≤◌, Bool, ◌&&◌, nat_le}

-- an access is of 1 to 2,048 bytes
pub record IsLength (len : ℕ) : Type 0 where
  pub at_least : 1 ≤ len
  pub at_most : len ≤ 2048

-- whether a number is the length of an access
abbrev pub is_length : ℕ → Bool
is_length len = nat_le 1 len && nat_le len 2048
