-- What RAM holds: a list of bytes, which has the number of an access with its lowest byte first.
use Rattle.std.specs.Prelude.{ℕ, ◌+◌, ◌-◌, Bool, nat_le, List, ◌++◌, length, take, drop, replicate, slice_range, if◌then◌else◌, Option, Some, None}
use Rattle.std.specs.Int.{w32, from_le_bytes, bytes_low_first}

-- an image and then zeros, `len` bytes in all
abbrev pub filled : ℕ → List ℕ → List ℕ
filled len image = image ++ replicate (len - length image) 0

-- all `size` bytes from a place on are there
abbrev pub is_within : List ℕ → (at size : ℕ) → Bool
is_within ram at size = nat_le (at + size) (length ram)

abbrev pub bytes_at : List ℕ → (at size : ℕ) → List ℕ
bytes_at ram at size = slice_range ram at (at + size)

-- the number in at most four bytes
unfoldable pub number_at : List ℕ → (at size : ℕ) → ℕ
number_at ram at size = from_le_bytes w32 (bytes_at ram at size)

abbrev pub loaded : List ℕ → (at size : ℕ) → Option ℕ
loaded ram at size = if is_within ram at size then Some (number_at ram at size) else None

-- these bytes stand from a place on, and all others are as before
abbrev pub overwritten : List ℕ → ℕ → List ℕ → List ℕ
overwritten ram at new = take at ram ++ (new ++ drop (at + length new) ram)

-- bytes from a place on, where they all fit
abbrev pub copied_in : List ℕ → ℕ → List ℕ → List ℕ
copied_in ram at bytes = if is_within ram at (length bytes) then overwritten ram at bytes else ram

-- the low bytes of a number, where they all fit
abbrev pub stored : List ℕ → (at size value : ℕ) → List ℕ
stored ram at size value =
    if is_within ram at size then overwritten ram at (bytes_low_first 0 size value) else ram
