-- Components that have ended, one after another.
use Rattle.std.proofs.Common.{◌≡◌, ℕ, ◌+◌, ◌<◌, ◌≤◌, ◌⊎◌, inl, inr, List, Some, slice_get, sym, ap, ◌∙◌, subst, arith, eq-or-lt_of_le}
use Rattle.std.proofs.lemmas.Option.{same_Some}
use Rattle.device_api.specs.Behaviour.{Behaviour}
use Rattle.sync_rule.specs.declared.runner.Runner.{Runner}
use Rattle.sync_rule.specs.Next.{HasEnded}

pub one_more_ended : {V : Type 0} (b : Behaviour V) (runners : List (Runner V)) (n : ℕ) (r : Runner V) → slice_get runners n ≡ Some r → HasEnded b r → ((p : ℕ) (x : Runner V) → p < n → slice_get runners p ≡ Some x → HasEnded b x) → (p : ℕ) (x : Runner V) → p < n + 1 → slice_get runners p ≡ Some x → HasEnded b x
one_more_ended {V} b runners n r there ended before p x lt is = at (eq-or-lt_of_le (let le : p ≤ n = omega arith in le))
  where
    at : (p ≡ n) ⊎ (p < n) → HasEnded b x
    at (inl same) = subst (HasEnded b) (same_Some r x (sym there ∙ ap (slice_get runners) (sym same) ∙ is)) ended
    at (inr less) = before p x less is
