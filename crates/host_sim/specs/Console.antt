-- The console, the halt and the trap: what a host logs, and how it ends.
use Rattle.std.specs.Prelude.{ℕ, ◌+◌, Bool, ◌&&◌, not, nat_le, ◌==◌, List, [], ◌∷◌, ◌++◌, length, codes, decimal, if◌then◌else◌}
use Rattle.std.specs.List.{flat_map}
use Rattle.cs_base.specs.Texts.{hexadecimal, hex_pair}
use Rattle.device_api.specs.Behaviour.{Reaction}
use Rattle.device_api.specs.World.{rest}
use Rattle.host_sim.specs.declared.state.HostState.TheVariants.{Halted}
use Rattle.host_sim.specs.Machine.{Machine}

-- printable ASCII but the backslash stands as it is
abbrev pub is_plain : ℕ → Bool
is_plain byte = nat_le 0x20 byte && nat_le byte 0x7E && not (byte == 0x5C)

-- another byte is `\x` and two digits
abbrev pub escaped : ℕ → List ℕ
escaped byte = if is_plain byte then byte ∷ [] else codes "\\x" ++ hex_pair byte

abbrev pub console_line : List ℕ → List ℕ
console_line kept = codes "con " ++ flat_map escaped kept

-- what is kept is logged as a line
unfoldable pub flushes : Machine → Reaction Machine
flushes s = record { state = record s { kept = [] }; sends = []; lines = console_line s.kept ∷ [] }

-- a line feed ends the line, and so does the 120th byte that is kept
unfoldable pub prints : Machine → ℕ → Reaction Machine
prints s byte =
    if byte == 0x0A then flushes s
    else if nat_le 120 (length s.kept + 1) then flushes (record s { kept = s.kept ++ byte ∷ [] })
    else rest (record s { kept = s.kept ++ byte ∷ [] })

-- the host is never due again; what is kept, if anything, is logged
unfoldable pub ends : Machine → Reaction Machine
ends s =
    if length s.kept == 0 then rest (record s { phase = Halted })
    else flushes (record s { phase = Halted })

unfoldable pub halts : Machine → ℕ → Reaction Machine
halts s value =
    let ended = ends s in
    record { state = ended.state; sends = ended.sends; lines = ended.lines ++ (codes "halt " ++ decimal value) ∷ [] }

abbrev pub trap_line : ℕ → List ℕ
trap_line cause = codes "trap " ++ hexadecimal cause

-- a trap is logged; where there is no handler it ends the host
unfoldable pub traps : Machine → ℕ → Reaction Machine
traps s cause =
    let after = if s.core.mtvec == 0 then ends s else rest s in
    record { state = after.state; sends = after.sends; lines = trap_line cause ∷ after.lines }
