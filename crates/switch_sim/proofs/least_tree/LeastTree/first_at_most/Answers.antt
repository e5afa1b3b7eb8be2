use Rattle.std.proofs.Common.{ℕ, List, drop, position, nat_le, ap, ◌∙◌}
use Rattle.switch_sim.proofs.least_tree.LeastTree.first_at_most.Goals as goal

pub returns : goal.returns
returns c = c.first_leaf.ensures ∙ ap (λ (xs : List ℕ). position (λ (n : ℕ). nat_le n c.args.limit) (drop 4096 xs)) c.as_slice.ensures.value ∙ ap (λ (xs : List ℕ). position (λ (n : ℕ). nat_le n c.args.limit) xs) c.self.view_is
