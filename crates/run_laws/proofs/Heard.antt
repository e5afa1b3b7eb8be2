-- What was received so far sounds, as far as a position, as all that was sent.
use Rattle.std.proofs.Common.{◌≡◌, ℕ, suc, ◌+◌, ◌≤◌, Bool, true, false, cond, eqb, List, [], ◌∷◌, ◌++◌, length, refl, sym, ap, ◌∙◌, subst, arith, append-nil}
use Rattle.std.proofs.lemmas.Bool.{cond-false, eqb-true}
use Rattle.std.proofs.lemmas.List.Elements.{filter-append}
use Rattle.std.specs.List.{AllByRecursion}
use Rattle.sb_message.specs.Receivable.{is_event}
use Rattle.sb_message.specs.declared.message.Msg.{Msg}
use Rattle.device_api.specs.World.{arrivals_on}
use Rattle.device_api.specs.Transcript.{RisesFrom, bodies, bound_of}
use Rattle.device_api.specs.Position.{Position, is_reached, message_key, arrivals_upto}
use Rattle.run_laws.specs.LocalRuns.{IsPrefix}
use Rattle.run_laws.proofs.Lists.{each-filter}
use Rattle.run_laws.proofs.Times.{rest_rises}
use Rattle.run_laws.proofs.Keys.{missed_after, message_before_next}

-- the arrivals of two lists, of which the second's numbers go on
pub arrivals_on-both : (t p i : ℕ) (xs ys : List Msg) → arrivals_on t p i (xs ++ ys) ≡ arrivals_on t p i xs ++ arrivals_on t p (length xs + i) ys
unfolding arrivals_on
arrivals_on-both t p i [] ys = ap (λ n. arrivals_on t p n ys) (let same : i ≡ 0 + i = omega arith in same)
arrivals_on-both t p i (x ∷ xs) ys = at (eqb x.at t) (arrivals_on-both t p (suc i) xs ys ∙ ap (λ n. arrivals_on t p (suc i) xs ++ arrivals_on t p n ys) (let same : length xs + suc i ≡ suc (length xs) + i = omega arith in same))
  where
    at : (b : Bool) → arrivals_on t p (suc i) (xs ++ ys) ≡ arrivals_on t p (suc i) xs ++ arrivals_on t p (suc (length xs) + i) ys → cond b (record { port = p; number = i; body = x.body } ∷ arrivals_on t p (suc i) (xs ++ ys)) (arrivals_on t p (suc i) (xs ++ ys)) ≡ cond b (record { port = p; number = i; body = x.body } ∷ arrivals_on t p (suc i) xs) (arrivals_on t p (suc i) xs) ++ arrivals_on t p (suc (length xs) + i) ys
    at true rest = ap (λ l. record { port = p; number = i; body = x.body } ∷ l) rest
    at false rest = rest

-- messages after one that was missed were missed
pub missed_messages : (position : Position) (t p low n i : ℕ) (xs : List Msg) → is_reached position (message_key low p n) ≡ false → n ≤ i → AllByRecursion (λ m. low ≤ m.at) xs → arrivals_upto position t (arrivals_on t p i xs) ≡ []
unfolding arrivals_on
missed_messages position t p low n i [] missed le above = refl
missed_messages position t p low n i (x ∷ xs) missed le above = at (missed_messages position t p low n (suc i) xs missed (omega arith) above.1) (eqb x.at t) refl
  where
    at : arrivals_upto position t (arrivals_on t p (suc i) xs) ≡ [] → (b : Bool) → eqb x.at t ≡ b → arrivals_upto position t (cond b (record { port = p; number = i; body = x.body } ∷ arrivals_on t p (suc i) xs) (arrivals_on t p (suc i) xs)) ≡ []
    at rest false e = rest
    at rest true e = cond-false (is_reached position (message_key t p i)) _ (arrivals_upto position t (arrivals_on t p (suc i) xs)) (missed_after position (message_key low p n) (message_key t p i) (message_before_next low t p n i (let same : x.at ≡ t = eqb-true x.at t e in let first : low ≤ x.at = above.0 in omega arith) le) missed) ∙ rest

-- a first part of what was sent sounds, as far as a position, as the whole, where nothing was missed
pub heard_so_far : (position : Position) (t p : ℕ) (received whole : List Msg) → RisesFrom 0 whole → IsPrefix received whole → is_reached position (message_key (bound_of received) p (length (bodies received))) ≡ false → arrivals_upto position t (arrivals_on t p 0 (bodies received)) ≡ arrivals_upto position t (arrivals_on t p 0 (bodies whole))
heard_so_far position t p received whole rises begins missed = sym (ap (λ l. arrivals_upto position t (arrivals_on t p 0 l)) (ap bodies begins.whole_is ∙ filter-append (λ m. is_event m.body) received begins.rest) ∙ ap (arrivals_upto position t) (arrivals_on-both t p 0 (bodies received) (bodies begins.rest)) ∙ filter-append (λ a. is_reached position (message_key t a.port a.number)) (arrivals_on t p 0 (bodies received)) (arrivals_on t p (length (bodies received) + 0) (bodies begins.rest)) ∙ ap (λ l. arrivals_upto position t (arrivals_on t p 0 (bodies received)) ++ l) (missed_messages position t p (bound_of received) (length (bodies received)) (length (bodies received) + 0) (bodies begins.rest) missed (omega arith) (each-filter (λ m. bound_of received ≤ m.at) (λ m. is_event m.body) begins.rest (rest_rises 0 received begins.rest (subst (RisesFrom 0) begins.whole_is rises)))) ∙ append-nil (arrivals_upto position t (arrivals_on t p 0 (bodies received))))
