use Rattle.std.proofs.Common.{◌≡◌, map}
use Rattle.std.specs.Prelude.{decimal}
use Rattle.log_join.specs.Heads.{head_time, second_time}
use Rattle.log_join.proofs.Merging.{IsMerged, lines_left}
use Rattle.log_join.proofs.merge.merged.Given as goal

abbrev pub invariant-moments : goal.invariant-moments
invariant-moments l = (l.agenda ≡ map head_time (map (λ rest. rest.now) l.rests.items)) × IsMerged l.names l.logs (map (λ rest. rest.now) l.rests.items) l.text × (l.digits ≡ decimal l.stamped) × (l.seconds.items ≡ map second_time (map (λ rest. rest.now) l.rests.items))

abbrev pub decreases-moments : goal.decreases-moments
decreases-moments l = lines_left (map (λ rest. rest.now) l.rests.items)
