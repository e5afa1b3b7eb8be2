-- A queue as its users see it.
use Rattle.std.specs.Prelude.{ℕ, List}

-- what it holds, the element that is next out first, and for how many more it has room
pub record Held (A : Type 0) : Type 0 where
  pub items : List A
  pub spare : ℕ
