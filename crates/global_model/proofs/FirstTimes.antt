-- The first of a time and of the first times of queues.
use Rattle.std.specs.Prelude.{ℕ, ◌≡◌, ◌+◌, ◌≤◌, ◌<◌, List, [], ◌∷◌}
use Rattle.std.proofs.lemmas.Bool.{cases_eq, cases_lt}
use Rattle.std.proofs.Common.{sym, arith, subst, ⊎_elim}
use Rattle.sb_message.specs.declared.message.Msg.{Msg}
use Rattle.moment_tree.specs.Dues.{sooner}
use Rattle.global_model.specs.Inboxes.{first_time, StartsFrom, IsSoonest}

pub soonest_none : (late : ℕ) (queues : ℕ → List Msg) → IsSoonest late 0 queues late
soonest_none late queues = record { at_most = omega arith; heads = λ p lt. absurd (omega arith); low = λ t le heads. le }

pub starts_before : (t u : ℕ) (queue : List Msg) → t ≤ u → StartsFrom u queue → StartsFrom t queue
starts_before t u [] le starts = tt
starts_before t u (m ∷ more) le starts = let first : u ≤ m.at = starts in omega arith

sooner_most : (next : ℕ) (queue : List Msg) → sooner next (first_time queue) ≤ next
sooner_most next [] = omega arith
sooner_most next (m ∷ more) = omega arith

sooner_starts : (next : ℕ) (queue : List Msg) → StartsFrom (sooner next (first_time queue)) queue
sooner_starts next [] = tt
sooner_starts next (m ∷ more) = omega arith

sooner_low : (t next : ℕ) (queue : List Msg) → t ≤ next → StartsFrom t queue → t ≤ sooner next (first_time queue)
sooner_low t next [] le starts = le
sooner_low t next (m ∷ more) le starts = let first : t ≤ m.at = starts in omega arith

pub soonest_more : (late count : ℕ) (queues : ℕ → List Msg) (next next' : ℕ) → IsSoonest late count queues next → next' ≡ sooner next (first_time (queues count)) → IsSoonest late (count + 1) queues next'
soonest_more late count queues next next' before is = subst (IsSoonest late (count + 1) queues) (sym is) (record {
  at_most = (let le : sooner next (first_time (queues count)) ≤ next = sooner_most next (queues count) in let most : next ≤ late = before.at_most in omega arith);
  heads = λ p lt. ⊎_elim (λ e. subst (λ n. StartsFrom (sooner next (first_time (queues count))) (queues n)) (sym e) (sooner_starts next (queues count))) (λ ne. starts_before (sooner next (first_time (queues count))) next (queues p) (sooner_most next (queues count)) (before.heads p (omega arith))) (cases_eq p count);
  low = λ t le heads. sooner_low t next (queues count) (before.low t le (λ p lt. heads p (omega arith))) (heads count (omega arith));
})

-- queues that are empty change nothing
pub soonest_over : (late count count' : ℕ) (queues : ℕ → List Msg) (next : ℕ) → IsSoonest late count queues next → count ≤ count' → ((p : ℕ) → count ≤ p → p < count' → queues p ≡ []) → IsSoonest late count' queues next
soonest_over late count count' queues next before le empty = record {
  at_most = before.at_most;
  heads = λ p lt. ⊎_elim (λ below. before.heads p below) (λ above. subst (StartsFrom next) (sym (empty p (omega arith) lt)) tt) (cases_lt p count);
  low = λ t le_t heads. before.low t le_t (λ p lt. heads p (omega arith));
}
