use Rattle.std.proofs.Common.{◌≡◌, map, take}
use Rattle.log_join.specs.Entries.{spaced}
use Rattle.log_join.proofs.merge.spaced_names.Given as goal

abbrev pub invariant-loop-name : goal.invariant-loop-name
invariant-loop-name l = l.pieces.items ≡ map spaced (take l.name-index l.names)
