use Rattle.std.proofs.Common.{◌≡◌, ◌++◌, length, map, take}
use Rattle.std.specs.List.{flat_map, zip}
use Rattle.log_join.specs.Entries.{named_line, named_lines}
use Rattle.log_join.proofs.entry.entries_of.Given as goal

abbrev pub invariant-logs : goal.invariant-logs
invariant-logs l = map named_line l.entries.items ≡ flat_map named_lines (take (length l.yielded) (zip l.names l.logs.lists))

abbrev pub invariant-lines : goal.invariant-lines
invariant-lines l = map named_line l.entries.items ≡ map named_line l.initial.entries.items ++ named_lines (l.name, take l.line-index l.line-items)
