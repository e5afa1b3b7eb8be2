-- Places of a run: a time, and how many components have had their turn at it.
use Rattle.std.specs.Prelude.{ℕ, ◌+◌, nat_lt, if◌then◌else◌}

-- where the components below c have had their turn at t: the first time at which component d has not
abbrev pub clock : ℕ → ℕ → ℕ → ℕ
clock t c d = if nat_lt d c then t + 1 else t
