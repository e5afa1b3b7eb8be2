use Rattle.std.proofs.Common.{◌≡◌, take}
use Rattle.load_run.specs.Summary.{lines_in}
use Rattle.load_run.proofs.sums.lines_in.Given as goal

abbrev pub invariant-loop-log : goal.invariant-loop-log
invariant-loop-log l = l.sum ≡ lines_in (take l.log-index l.logs)
