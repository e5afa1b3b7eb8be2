-- The numbers and the texts of the reasons for which a topology is refused, and how its entries are named.
use Rattle.std.specs.Prelude.{ℕ, nat_le, List, codes, Option, Some, None, fold, if◌then◌else◌}
use Rattle.topology_file.specs.declared.reason.Entry.{Entry}
use Rattle.topology_file.specs.declared.reason.Entry.TheVariants as entry
use Rattle.topology_file.specs.declared.reason.TopoReason.{TopoReason}
use Rattle.topology_file.specs.declared.reason.TopoReason.TheVariants as reason

abbrev pub number_of : TopoReason → ℕ
number_of reason.UnknownKey = 2
number_of reason.Missing = 3
number_of reason.WrongType = 4
number_of reason.Range = 5
number_of reason.BadName = 6
number_of reason.NameTwice = 7
number_of reason.NoSuchComponent = 8
number_of reason.PortTwice = 9
number_of reason.PortMissing = 10
number_of reason.KindsDoNotJoin = 11
number_of reason.IntervalPastLatency = 12
number_of reason.BadMac = 13
number_of reason.TooMany = 14
number_of reason.PortFree = 15

abbrev pub reason_text : TopoReason → List ℕ
reason_text reason.UnknownKey = codes "unknown key"
reason_text reason.Missing = codes "missing key"
reason_text reason.WrongType = codes "wrong type"
reason_text reason.Range = codes "out of range"
reason_text reason.BadName = codes "bad name"
reason_text reason.NameTwice = codes "name twice"
reason_text reason.NoSuchComponent = codes "no such component"
reason_text reason.PortTwice = codes "port twice"
reason_text reason.PortMissing = codes "port missing"
reason_text reason.KindsDoNotJoin = codes "kinds do not join"
reason_text reason.IntervalPastLatency = codes "interval past latency"
reason_text reason.BadMac = codes "bad mac"
reason_text reason.TooMany = codes "too many"
reason_text reason.PortFree = codes "port in no link"

-- an entry is named by a word and, but for the document itself, a number
abbrev pub entry_word : Entry → List ℕ
entry_word entry.Top = codes "top"
entry_word (entry.Component n) = codes "component"
entry_word (entry.Link n) = codes "link"

abbrev pub entry_number : Entry → Option ℕ
entry_number entry.Top = None
entry_number (entry.Component n) = Some n
entry_number (entry.Link n) = Some n

-- of two faults that may be there, the one of the lesser number
abbrev pub lesser : Option TopoReason → Option TopoReason → Option TopoReason
lesser None other = other
lesser (Some r) None = Some r
lesser (Some r) (Some s) = if nat_le (number_of r) (number_of s) then Some r else Some s

-- of all faults that may be there, the one of the least number
abbrev pub least : List (Option TopoReason) → Option TopoReason
least faults = fold lesser None faults
