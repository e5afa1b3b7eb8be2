-- Why a component moves nothing by which no event may be processed.
use Rattle.std.proofs.Common.{◌≡◌, ℕ, zero, suc, ◌<◌, ◌≤◌, Bool, true, false, leb, ltb, length, Option, Some, None, refl, subst, arith, le_refl}
use Rattle.std.specs.Prelude.{MatchOption}
use Rattle.std.proofs.lemmas.Bool.{leb-true, leb-false, ltb-true, ltb-false}
use Rattle.device_api.specs.Behaviour.{Behaviour}
use Rattle.sync_rule.specs.declared.next.Next.{Next}
use Rattle.sync_rule.specs.declared.timer.Timer.{Timer}
use Rattle.sync_rule.specs.declared.runner.Runner.{Runner}
use Rattle.sync_rule.specs.Times.{timer_of, head_of, time_of, needed_for}
use Rattle.sync_rule.specs.Soonest.{Soonest}
use Rattle.sync_rule.specs.ManyPorts.{Bars}
use Rattle.sync_rule.specs.Next.{IsNext, IsDone, IsEnabled, HasEnded, HasHeard, IsAllSent, IsBarred, IsUnbarred, key_of}
use Rattle.sync_rule.specs.Fronts.{IsIdleFront}
use Rattle.sync_rule.specs.Choice.{chosen}
use Rattle.sync_rule.proofs.Chosen.{chosen_is, key_time}
use Rattle.sync_rule.proofs.Keys.{at_most_time}
use Rattle.sync_rule.proofs.Soonests.{every_soonest}

module _ {V : Type 0} (b : Behaviour V) (r : Runner V) where
  heard_far : (needed : ℕ) → ((p : ℕ) → Bars r.incoming needed p → ⊥) → HasHeard r.incoming needed
  heard_far needed none p bound timed = at (leb needed bound) refl
    where
      at : (far : Bool) → leb needed bound ≡ far → needed ≤ bound
      at true e = leb-true needed bound e
      at false e = absurd (none p (record { bound = bound; quiet = timed; short = leb-false needed bound e }))

  -- what a port bars has not ended
  pub not_ended : (port : ℕ) → IsBarred b r port → HasEnded b r → ⊥
  not_ended port barred ended = let far : r.end ≤ barred.bars.bars.bound = ended.heard port barred.bars.bars.bound barred.bars.bars.quiet in let short : barred.bars.bars.bound < barred.needed = barred.bars.bars.short in let is : barred.needed ≡ r.end = barred.is_needed.for_end ended.done in omega arith

  -- what no port bars, and which may still not go on, has ended
  pub has_ended : IsAllSent r.outgoing → ((next : Next) → IsEnabled b r next → ⊥) → IsUnbarred b r → HasEnded b r
  has_ended all_sent stopped free = at (chosen timer.0 head.0 (b.due r.device)) (chosen_is b r timer.0 head.0 (b.due r.device) refl timer.1 head.1)
    where
      timer : (best : Option Timer) × Soonest timer_of r.outgoing (length r.outgoing) best
      timer = every_soonest timer_of r.outgoing (length r.outgoing) (le_refl (length r.outgoing))

      head : (best : Option Timer) × Soonest head_of r.incoming (length r.incoming) best
      head = every_soonest head_of r.incoming (length r.incoming) (le_refl (length r.incoming))

      done_then : IsDone b r → HasEnded b r
      done_then done = record { done = done; all_sent = all_sent; heard = heard_far r.end (subst (λ n. (p : ℕ) → Bars r.incoming n p → ⊥) (free.is_needed.for_end done) free.none) }

      by_time : (next : Next) → IsNext b r next → (soon : Bool) → ltb (time_of next) r.end ≡ soon → HasEnded b r
      by_time next is true e = absurd (let in_run : time_of next < r.end = ltb-true (time_of next) r.end e in stopped next (record { is_next = is; in_run = in_run; all_sent = all_sent; heard = heard_far (needed_for next) (subst (λ n. (p : ℕ) → Bars r.incoming n p → ⊥) (free.is_needed.for_next next is in_run) free.none) }))
      by_time next is false e = done_then (λ m pending. let late : r.end ≤ time_of next = ltb-false (time_of next) r.end e in let least : time_of next ≤ time_of m = subst (λ x. x ≤ time_of m) (key_time b r next) (subst (λ y. (key_of next).time ≤ y) (key_time b r m) (at_most_time (key_of next) (key_of m) (is.least m pending))) in omega arith)

      at : (next : Option Next) → MatchOption next (IsIdleFront b r) (IsNext b r) → HasEnded b r
      at None idle = done_then (λ m pending. absurd (idle m pending))
      at (Some next) is = by_time next is (ltb (time_of next) r.end) refl

pub some_of : (n : ℕ) → (n ≡ 0 → ⊥) → 0 < n
some_of zero differs = absurd (differs refl)
some_of (suc n) differs = omega arith
