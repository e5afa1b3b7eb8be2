use Rattle.std.proofs.Common.{◌≡◌, map, take}
use Rattle.global_model.specs.Tally.{count_before}
use Rattle.global_model.proofs.tallies.Tallies.counts_before.Given as goal

abbrev pub invariant-loop-tally : goal.invariant-loop-tally
invariant-loop-tally l = l.counts ≡ map (count_before l.time) (take l.tally-index l.self)
