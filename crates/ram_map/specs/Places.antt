-- A host's address map.
use Rattle.std.specs.Prelude.{ℕ, ◌+◌, ◌-◌, ◌*◌, ◌/◌, ◌%◌, Bool, ◌&&◌, nat_le, nat_lt, ◌==◌, if◌then◌else◌}
use Rattle.ram_map.specs.declared.map.Map.{Map}
use Rattle.ram_map.specs.declared.place.Place.{Place}
use Rattle.ram_map.specs.declared.place.Place.TheVariants.{Ram, Console, Halt, Cycles, Bar, Window, Nowhere}

-- `len` bytes from a base on
abbrev pub is_in : (base len address : ℕ) → Bool
is_in base len address = nat_le base address && nat_lt (address - base) len

-- of each 0x10_0000 bytes the first 0x2_0000 are a port's BAR
abbrev pub bar_place : ℕ → Place
bar_place offset =
    if nat_le 0x2_0000 (offset % 0x10_0000) then Nowhere else Bar (offset / 0x10_0000) (offset % 0x10_0000)

-- windows follow one another; their ports come after the PCIe ports
abbrev pub window_place : (pcie offset : ℕ) → Place
window_place pcie offset = Window (pcie + offset / 0x100_0000) (offset % 0x100_0000)

-- the words that the host itself answers
abbrev pub word_place : ℕ → Place
word_place address =
    if address == 0x1000_0000 then Console
    else if address == 0x1000_0004 then Halt
    else if address == 0x1000_0008 then Cycles
    else Nowhere

abbrev pub device_place : Map → ℕ → Place
device_place m address =
    if is_in 0x4000_0000 (m.pcie * 0x10_0000) address then bar_place (address - 0x4000_0000)
    else if is_in 0x6000_0000 (m.mem * 0x100_0000) address then window_place m.pcie (address - 0x6000_0000)
    else word_place address

abbrev pub placed : Map → ℕ → Place
placed m address =
    if is_in 0x8000_0000 m.ram address then Ram (address - 0x8000_0000) else device_place m address
