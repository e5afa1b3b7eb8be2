-- The first of the least times, one element after another.
use Rattle.std.proofs.Common.{◌≡◌, ℕ, zero, suc, ◌+◌, ◌<◌, ◌≤◌, ◌⊎◌, inl, inr, Bool, true, false, cond, ltb, List, length, Option, Some, None, refl, sym, ap, ◌∙◌, subst, arith, eq-or-lt_of_le}
use Rattle.std.specs.Prelude.{slice_get, get_or}
use Rattle.std.proofs.lemmas.Bool.{ltb-true, ltb-false}
use Rattle.std.proofs.lemmas.Option.{none-some, same_Some, slice_get_cases}
use Rattle.sync_rule.specs.declared.timer.Timer.{Timer}
use Rattle.sync_rule.specs.Soonest.{IsTimed, IsSoonest, AreUntimed, Soonest, sooner_at, sooner_than}

pub soonest_start : {X : Type 0} (time_of : X → Option ℕ) (xs : List X) → Soonest time_of xs 0 None
soonest_start time_of xs = λ p t lt timed. absurd (omega arith)

module _ {X : Type 0} (time_of : X → Option ℕ) (xs : List X) (n : ℕ) (x : X) (there : slice_get xs n ≡ Some x) where
  here : (p t : ℕ) → p ≡ n → IsTimed time_of xs p t → time_of x ≡ Some t
  here p t same timed = ap time_of (same_Some x timed.is (sym there ∙ ap (slice_get xs) (sym same) ∙ timed.there)) ∙ timed.at_time

  split : (P : Type 0) (p : ℕ) → p < n + 1 → (p < n → P) → (p ≡ n → P) → P
  split P p lt below at = from (eq-or-lt_of_le (let le : p ≤ n = omega arith in le))
    where
      from : (p ≡ n) ⊎ (p < n) → P
      from (inl same) = at same
      from (inr less) = below less

  new_timer : ℕ → Timer
  new_timer t = record { at = t; port = n }

  first_one : (t : ℕ) → time_of x ≡ Some t → AreUntimed time_of xs n → IsSoonest time_of xs (n + 1) (record { at = t; port = n })
  first_one t e untimed = record {
    timed = record { is = x; there = there; at_time = e };
    below = omega arith;
    least = λ p u lt timed. split (t ≤ u) p lt (λ less. absurd (untimed p u less timed)) (λ same. let both : t ≡ u = same_Some t u (sym e ∙ here p u same timed) in omega arith);
    first = λ p u lt timed. absurd (untimed p u lt timed);
  }

  nearer : (t : ℕ) (best : Timer) → time_of x ≡ Some t → IsSoonest time_of xs n best → (b : Bool) → ltb t best.at ≡ b → IsSoonest time_of xs (n + 1) (cond b (record { at = t; port = n }) best)
  nearer t best e s true lt = record {
    timed = record { is = x; there = there; at_time = e };
    below = omega arith;
    least = λ p u less timed. split (t ≤ u) p less (λ below. let before : best.at ≤ u = s.least p u below timed in let now : t < best.at = ltb-true t best.at lt in omega arith) (λ same. let both : t ≡ u = same_Some t u (sym e ∙ here p u same timed) in omega arith);
    first = λ p u less timed. let before : best.at ≤ u = s.least p u less timed in let now : t < best.at = ltb-true t best.at lt in omega arith;
  }
  nearer t best e s false ge = record {
    timed = s.timed;
    below = (let below : best.port < n = s.below in omega arith);
    least = λ p u less timed. split (best.at ≤ u) p less (λ below. s.least p u below timed) (λ same. let both : t ≡ u = same_Some t u (sym e ∙ here p u same timed) in let late : best.at ≤ t = ltb-false t best.at ge in omega arith);
    first = s.first;
  }

  untimed_too : time_of x ≡ None → (best : Option Timer) → Soonest time_of xs n best → Soonest time_of xs (n + 1) best
  untimed_too e None untimed = λ p t lt timed. split ⊥ p lt (λ less. untimed p t less timed) (λ same. none-some t (sym e ∙ here p t same timed))
  untimed_too e (Some best) s = record {
    timed = s.timed;
    below = (let below : best.port < n = s.below in omega arith);
    least = λ p t lt timed. split (best.at ≤ t) p lt (λ less. s.least p t less timed) (λ same. absurd (none-some t (sym e ∙ here p t same timed)));
    first = s.first;
  }

  timed_too : (t : ℕ) → time_of x ≡ Some t → (best : Option Timer) → Soonest time_of xs n best → IsSoonest time_of xs (n + 1) (sooner_than best (record { at = t; port = n }))
  timed_too t e None untimed = first_one t e untimed
  timed_too t e (Some best) s = nearer t best e s (ltb t best.at) refl

  pub soonest_more : (best : Option Timer) → Soonest time_of xs n best → Soonest time_of xs (n + 1) (sooner_at best n (time_of x))
  soonest_more best s = from (time_of x) refl
    where
      from : (t : Option ℕ) → time_of x ≡ t → Soonest time_of xs (n + 1) (sooner_at best n t)
      from None e = untimed_too e best s
      from (Some t) e = timed_too t e best s

-- there is a first of the least times of each first part of a list, if any element has a time
pub every_soonest : {X : Type 0} (time_of : X → Option ℕ) (xs : List X) (n : ℕ) → n ≤ length xs → (best : Option Timer) × Soonest time_of xs n best
every_soonest time_of xs zero le = (None, soonest_start time_of xs)
every_soonest {X} time_of xs (suc n) le = more (slice_get_cases xs n).1 (every_soonest time_of xs n (omega arith))
  where
    more : ((x : X) × (n < length xs) × (slice_get xs n ≡ Some x) × (get_or xs n x ≡ x)) ⊎ ((length xs ≤ n) × (slice_get xs n ≡ None)) → ((best : Option Timer) × Soonest time_of xs n best) → (best : Option Timer) × Soonest time_of xs (suc n) best
    more (inl found) before = (sooner_at before.0 n (time_of found.0), subst (λ k. Soonest time_of xs k (sooner_at before.0 n (time_of found.0))) (let same : n + 1 ≡ suc n = omega arith in same) (soonest_more time_of xs n found.0 found.2 before.0 before.1))
    more (inr past) before = absurd (let past : length xs ≤ n = past.0 in omega arith)
