-- Members that are dealt to workers one after another.
use Rattle.std.proofs.Common.{◌≡◌, ℕ, zero, suc, ◌+◌, ◌*◌, ◌/◌, ◌%◌, ◌<◌, ◌≤◌, Bool, true, false, eqb, leb, List, [], ◌∷◌, ◌++◌, length, get_or, Some, None, refl, sym, ap, ◌∙◌, subst, arith}
use Rattle.std.specs.Prelude.{slice_get, slice_set}
use Rattle.std.proofs.Math.Nat.{mod-add-div', mul_comm}
use Rattle.std.proofs.lemmas.Nat.{mul-add-lt, mod_below}
use Rattle.std.proofs.lemmas.Bool.{eqb-true, eqb-false, leb-true, leb-false}
use Rattle.std.proofs.lemmas.List.{length-set}
use Rattle.std.proofs.lemmas.Option.{same_Some, slice_get-get_or, slice_get_within}
use Rattle.run_laws.proofs.Lists.{there_below, slice_get-set_same, slice_get-set_other}
use Rattle.worker_rounds.specs.Rounds.{Work}
use Rattle.run_threads.specs.Dealing.{AreDealt, AreNumbered, DealtMore}

-- PLACES

at_most : (k q : ℕ) → (q < k → ⊥) → k ≤ q
at_most k q never = at (leb k q) refl
  where
    at : (o : Bool) → leb k q ≡ o → k ≤ q
    at true e = leb-true k q e
    at false e = absurd (never (leb-false k q e))

not_less : (w k v q n : ℕ) → w < n → w + k * n ≡ v + q * n → k < q → ⊥
not_less w k v q n within same less = (let below : k * n + w < n * q = mul-add-lt k n w q less within in let turned : n * q ≡ q * n = mul_comm n q in omega arith)

pub same_row : (w k v q n : ℕ) → w < n → v < n → w + k * n ≡ v + q * n → k ≡ q
same_row w k v q n w_lt v_lt same = (let most : k ≤ q = at_most k q (λ lt. not_less v q w k n v_lt (sym same) lt) in let least : q ≤ k = at_most q k (λ lt. not_less w k v q n w_lt same lt) in omega arith)

pub same_column : (w k v q n : ℕ) → w < n → v < n → w + k * n ≡ v + q * n → w ≡ v
same_column w k v q n w_lt v_lt same = (let rows : k * n ≡ q * n = ap (λ r. r * n) (same_row w k v q n w_lt v_lt same) in omega arith)

pub get_last : {X : Type 0} (xs : List X) (x : X) → slice_get (xs ++ x ∷ []) (length xs) ≡ Some x
get_last [] x = refl
get_last (y ∷ xs) x = get_last xs x

pub get_other : {X : Type 0} (xs : List X) (x : X) (i : ℕ) → (i ≡ length xs → ⊥) → slice_get (xs ++ x ∷ []) i ≡ slice_get xs i
get_other [] x zero differ = absurd (differ refl)
get_other [] x (suc i) differ = refl
get_other (y ∷ xs) x zero differ = refl
get_other (y ∷ xs) x (suc i) differ = get_other xs x i (λ same. differ (ap suc same))

-- ONE MORE

module _ {M : Type 0} (workers : List (Work M)) (all : List M) (dealt : AreDealt workers all) (x : M) (worker : Work M) (here : slice_get workers (length all % length workers) ≡ Some worker) where
  abbrev n : ℕ
  n = length workers

  abbrev w0 : ℕ
  w0 = length all % length workers

  abbrev q : ℕ
  q = length all / length workers

  place : w0 + q * n ≡ length all
  place = mod-add-div' (length all) (length workers)

  within : w0 < n
  within = slice_get_within workers w0 worker here

  not_more : q < length worker.members → ⊥
  not_more lt = (let there = there_below worker.members q lt in let inside : w0 + q * n < length all = slice_get_within all (w0 + q * n) there.0 (sym (dealt.dealt w0 q worker here) ∙ there.1) in let is : w0 + q * n ≡ length all = place in omega arith)

  not_fewer : length worker.members < q → ⊥
  not_fewer lt =
      let below : length worker.members * n + w0 < n * q = mul-add-lt (length worker.members) n w0 q lt within in
      let turned : n * q ≡ q * n = mul_comm n q in
      let is : w0 + q * n ≡ length all = place in
      let inside : w0 + length worker.members * n < length all = omega arith in
      let there = there_below all (w0 + length worker.members * n) inside in
      let past : length worker.members < length worker.members = slice_get_within worker.members (length worker.members) there.0 (dealt.dealt w0 (length worker.members) worker here ∙ there.1) in
      omega arith

  as_many : length worker.members ≡ q
  as_many = (let most : length worker.members ≤ q = at_most (length worker.members) q not_more in let least : q ≤ length worker.members = at_most q (length worker.members) not_fewer in omega arith)

  -- the members of the worker that has one more
  here_then : (k : ℕ) → slice_get (worker.members ++ x ∷ []) k ≡ slice_get (all ++ x ∷ []) (w0 + k * n)
  here_then k = at (eqb k q) refl
    where
      at : (o : Bool) → eqb k q ≡ o → slice_get (worker.members ++ x ∷ []) k ≡ slice_get (all ++ x ∷ []) (w0 + k * n)
      at true e = (let is : k ≡ q = eqb-true k q e in ap (slice_get (worker.members ++ x ∷ [])) (is ∙ sym as_many) ∙ get_last worker.members x ∙ sym (get_last all x) ∙ ap (slice_get (all ++ x ∷ [])) (sym place ∙ ap (λ r. w0 + r * n) (sym is)))
      at false e = get_other worker.members x k (λ same. eqb-false k q e (same ∙ as_many)) ∙ dealt.dealt w0 k worker here ∙ sym (get_other all x (w0 + k * n) (λ same. eqb-false k q e (same_row w0 k w0 q n within within (same ∙ sym place))))

  other_then : (w k : ℕ) (one : Work M) → (w ≡ w0 → ⊥) → slice_get workers w ≡ Some one → slice_get one.members k ≡ slice_get (all ++ x ∷ []) (w + k * n)
  other_then w k one differ at = dealt.dealt w k one at ∙ sym (get_other all x (w + k * n) (λ same. differ (same_column w k w0 q n (slice_get_within workers w one at) within (same ∙ sym place))))

  module _ (worker' : Work M) (members_are : worker'.members ≡ worker.members ++ x ∷ []) (fault_is : worker'.fault ≡ worker.fault) where
    there_then : (w : ℕ) (one : Work M) → slice_get (slice_set workers w0 worker') w ≡ Some one → (k : ℕ) → (slice_get one.members k ≡ slice_get (all ++ x ∷ []) (w + k * n)) × (one.fault ≡ None)
    there_then w one at k = by (eqb w w0) refl
      where
        by : (o : Bool) → eqb w w0 ≡ o → (slice_get one.members k ≡ slice_get (all ++ x ∷ []) (w + k * n)) × (one.fault ≡ None)
        by true e =
            let is : w ≡ w0 = eqb-true w w0 e in
            let same : one ≡ worker' = same_Some one worker' (sym at ∙ ap (slice_get (slice_set workers w0 worker')) is ∙ slice_get-set_same workers w0 worker worker' here) in
            (ap (λ (o : Work M). slice_get o.members k) same ∙ ap (λ l. slice_get l k) members_are ∙ here_then k ∙ ap (λ v. slice_get (all ++ x ∷ []) (v + k * n)) (sym is), ap (λ (o : Work M). o.fault) same ∙ fault_is ∙ dealt.no_fault w0 worker here)
        by false e =
            let differ = eqb-false w w0 e in
            let before : slice_get workers w ≡ Some one = sym (slice_get-set_other workers w0 w worker' (λ same. differ (sym same))) ∙ at in
            (other_then w k one differ before, dealt.no_fault w one before)

    pub dealt_more : AreDealt (slice_set workers w0 worker') (all ++ x ∷ [])
    dealt_more = record {
      some_worker = (let many : length (slice_set workers w0 worker') ≡ length workers = length-set workers w0 worker' in let some : 0 < length workers = dealt.some_worker in omega arith);
      dealt = λ w k one at. (there_then w one at k).0 ∙ ap (λ m. slice_get (all ++ x ∷ []) (w + k * m)) (sym (length-set workers w0 worker'));
      no_fault = λ w one at. (there_then w one at 0).1;
    }

-- whichever were dealt before
pub deal_step : {M : Type 0} (workers : List (Work M)) (number : ℕ) (x : M) (d worker' : Work M) → 0 < length workers → worker'.members ≡ (get_or workers (number % length workers) d).members ++ x ∷ [] → worker'.fault ≡ (get_or workers (number % length workers) d).fault → DealtMore number x workers (slice_set workers (number % length workers) worker')
deal_step workers number x d worker' some members_are fault_is = λ all many dealt. (let here : slice_get workers (length all % length workers) ≡ Some (get_or workers (number % length workers) d) = ap (λ k. slice_get workers (k % length workers)) many ∙ slice_get-get_or workers (number % length workers) d (mod_below number (length workers) some) in subst (λ k. AreDealt (slice_set workers (k % length workers) worker') (all ++ x ∷ [])) many (dealt_more workers all dealt x (get_or workers (number % length workers) d) here worker' members_are fault_is))

-- a worker at its place keeps its number
numbered_at : {M : Type 0} (workers : List (Work M)) (place : ℕ) (worker worker' : Work M) → slice_get workers place ≡ Some worker → worker'.number ≡ worker.number → AreNumbered workers → (w : ℕ) (one : Work M) → slice_get (slice_set workers place worker') w ≡ Some one → one.number ≡ w
numbered_at {M} workers place worker worker' here same numbered w one at = by (eqb w place) refl
  where
    by : (o : Bool) → eqb w place ≡ o → one.number ≡ w
    by true e =
        let is : w ≡ place = eqb-true w place e in
        let found : one ≡ worker' = same_Some one worker' (sym at ∙ ap (slice_get (slice_set workers place worker')) is ∙ slice_get-set_same workers place worker worker' here) in
        ap (λ (o : Work M). o.number) found ∙ same ∙ numbered.each place worker here ∙ sym is
    by false e = (let differ = eqb-false w place e in numbered.each w one (sym (slice_get-set_other workers place w worker' (λ s. differ (sym s))) ∙ at))

pub numbered_step : {M : Type 0} (workers : List (Work M)) (number : ℕ) (d worker' : Work M) → 0 < length workers → worker'.number ≡ (get_or workers (number % length workers) d).number → AreNumbered workers → AreNumbered (slice_set workers (number % length workers) worker')
numbered_step workers number d worker' some same numbered = record { each = numbered_at workers (number % length workers) (get_or workers (number % length workers) d) worker' (slice_get-get_or workers (number % length workers) d (mod_below number (length workers) some)) same numbered }
