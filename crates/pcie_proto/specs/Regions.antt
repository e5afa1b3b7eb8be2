-- The regions of registers that a device offers.
use Rattle.std.specs.Prelude.{ℕ, ◌≡◌}

-- a device has one region, number 0
pub record IsBar (number : ℕ) : Type 0 where
  pub first : number ≡ 0
