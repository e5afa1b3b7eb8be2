use Rattle.std.proofs.Common.{◌≡◌, take}
use Rattle.load_run.specs.Summary.{sends_in}
use Rattle.load_run.proofs.sums.sends_in.Given as goal

abbrev pub invariant-loop-count : goal.invariant-loop-count
invariant-loop-count l = l.sum ≡ sends_in (take l.count-index l.counts)
