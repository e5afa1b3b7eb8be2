-- The sizes of accesses, of RAM and of the address map.
use Rattle.std.specs.Prelude.{◌≡◌, ℕ, ◌≤◌, ◌⊎◌}

-- an access of 1, 2 or 4 bytes
abbrev pub IsSize : ℕ → Type 0
IsSize size = (size ≡ 1) ⊎ (size ≡ 2) ⊎ (size ≡ 4)

pub record IsMap (ram pcie mem : ℕ) : Type 0 where
  pub some_ram : ram ≤ 16777216
  pub few_bars : pcie ≤ 32
  pub few_windows : mem ≤ 32
