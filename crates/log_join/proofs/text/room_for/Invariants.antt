use Rattle.std.proofs.Common.{◌≤◌, ◌-◌, ◌^◌, length, take, min}
use Rattle.std.specs.List.{flat_map}
use Rattle.log_join.specs.Entries.{entry_text}
use Rattle.log_join.proofs.text.room_for.Given as goal

abbrev pub invariant-loop-entry : goal.invariant-loop-entry
invariant-loop-entry l = min (length (flat_map entry_text (take l.entry-index l.entries))) (2 ^ 64 - 1) ≤ l.room
