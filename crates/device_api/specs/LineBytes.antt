-- The bytes of a line's text, wherever they stand.
use Rattle.std.specs.Prelude.{ℕ, ◌≤◌, List, take, ⊤}
use Rattle.device_api.specs.declared.line_text.Stored.{Stored}
use Rattle.device_api.specs.declared.line_text.Stored.TheVariants.{InPlace, Apart}

abbrev pub bytes_of : Stored → List ℕ
bytes_of (InPlace short) = take short.len short.bytes
bytes_of (Apart octets) = octets.value

-- in place stand no more bytes than there is room for
abbrev pub IsSound : Stored → Type 0
IsSound (InPlace short) = short.len ≤ 22
IsSound (Apart octets) = ⊤
