use Rattle.std.proofs.Common.{take}
use Rattle.std.specs.List.{All}
use Rattle.log_join.specs.Heads.{IsFrom}
use Rattle.log_join.proofs.merge.merge_room.Given as goal

abbrev pub invariant-loop-index : goal.invariant-loop-index
invariant-loop-index l = All (IsFrom 0) (take l.index l.logs)
