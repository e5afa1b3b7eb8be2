use Rattle.std.proofs.Common.{ℕ, ◌≤◌, ◌-◌, List, slice_index}
use Rattle.switch_sim.specs.Chains.{IsNextIn, IsLinkOf}
use Rattle.switch_sim.proofs.chains.Chains.link_to.Given as goal

-- a link of the bucket that comes before the place
pub record IsBefore (links buckets : List ℕ) (bucket place link start : ℕ) : Type 0 where
  pub link_of : IsLinkOf buckets bucket link start
  pub before : start ≤ place
  pub leads : IsNextIn buckets bucket start (slice_index links link)

abbrev pub invariant-loop-self : goal.invariant-loop-self
invariant-loop-self l = (start : ℕ) × IsBefore l.self.links l.self.buckets l.bucket l.place l.link start

abbrev pub decreases-loop-self : goal.decreases-loop-self
decreases-loop-self l = l.place - slice_index l.self.links l.link
