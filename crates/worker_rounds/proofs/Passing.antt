-- Passes: the turns of members one after another, and one pass after others.
use Rattle.std.proofs.Common.{◌≡◌, ℕ, ◌+◌, ◌<◌, ◌≤◌, ◌%◌, ◌^◌, Bool, true, false, eqb, List, length, get_or, refl, sym, ap, ◌∙◌, subst, arith}
use Rattle.std.specs.Prelude.{slice_set}
use Rattle.std.proofs.lemmas.Bool.{eqb-true, eqb-false}
use Rattle.std.proofs.lemmas.List.{length-set, get_or-set_same, get_or-set_other, get_or_default}
use Rattle.worker_rounds.specs.Passes.{Went, AllFit, EachWent, HaveCounted, PassSoFar}
use Rattle.worker_rounds.specs.Passes.Went.{stood, turned}

-- what holds at each place after one element was replaced
each_set : {M : Type 0} (P : ℕ → M → Type 0) (xs : List M) (k : ℕ) (y : M) → k < length xs → P k y → ((i : ℕ) (d : M) → (i ≡ k → ⊥) → i < length xs → P i (get_or xs i d)) → (i : ℕ) (d : M) → i < length xs → P i (get_or (slice_set xs k y) i d)
each_set {M} P xs k y lt here others i d i_lt = at (eqb i k) refl
  where
    at : (same : Bool) → eqb i k ≡ same → P i (get_or (slice_set xs k y) i d)
    at true e = subst (λ j. P j (get_or (slice_set xs k y) j d)) (sym (eqb-true i k e)) (subst (P k) (sym (get_or-set_same xs k y d lt)) here)
    at false e = subst (P i) (sym (get_or-set_other xs k i y d (eqb-false i k e))) (others i d (eqb-false i k e) i_lt)

module _ {M : Type 0} (does : M → M → Type 0) where
  pub pass_starts : (xs : List M) → PassSoFar does 0 xs xs
  pass_starts xs = record { as_many = refl; done = λ i d none within. absurd (omega arith); same = λ i d from within. refl }

  -- the member whose turn it is, is as it was
  its_turn : (old mid : List M) (k : ℕ) (x d : M) → PassSoFar does k old mid → k < length old → x ≡ get_or mid k x → get_or old k d ≡ x
  its_turn old mid k x d so_far lt is = sym (so_far.same k d (omega arith) lt) ∙ get_or_default mid k d x (let many : length mid ≡ length old = so_far.as_many in omega arith) ∙ sym is

  pub pass_more : (old mid : List M) (k : ℕ) (x y : M) → PassSoFar does k old mid → k < length old → x ≡ get_or mid k x → does x y → PassSoFar does (k + 1) old (slice_set mid k y)
  pass_more old mid k x y so_far lt is did = record {
    as_many = length-set mid k y ∙ so_far.as_many;
    done = λ i d before within. each_set (λ j (z : M). j < k + 1 → does (get_or old j d) z) mid k y lt_mid (λ up. subst (λ w. does w y) (sym (its_turn old mid k x d so_far lt is)) did) (λ j e differ j_lt up. subst (does (get_or old j d)) (get_or_default mid j d e j_lt) (so_far.done j d (omega arith) (omega (arith, many)))) i d (omega (arith, many)) before;
    same = λ i d from within. get_or-set_other mid k i y d (λ (e : i ≡ k). absurd (omega arith)) ∙ so_far.same i d (omega arith) within;
  }
    where
      many : length mid ≡ length old
      many = so_far.as_many

      lt_mid : k < length mid
      lt_mid = omega (arith, many)

  pub pass_done : (old new : List M) (k : ℕ) → PassSoFar does k old new → length old ≤ k → EachWent does 1 old new
  pass_done old new k so_far past = record {
    as_many = so_far.as_many;
    each = λ i d within. turned 0 (get_or old i d) (get_or new i d) stood (so_far.done i d (omega arith) within);
  }

  pub none_went : (xs : List M) → EachWent does 0 xs xs
  none_went xs = record { as_many = refl; each = λ k d within. stood }

  -- some turns and then some more
  went_on : (a b c : M) (n m : ℕ) → Went does a n b → Went does b m c → Went does a (n + m) c
  went_on a b _ n _ first stood = subst (λ k. Went does a k b) (let same : n ≡ n + 0 = omega arith in same) first
  went_on a b _ n _ first (turned m c c' more last) = subst (λ k. Went does a k c') (let same : (n + m) + 1 ≡ n + (m + 1) = omega arith in same) (turned (n + m) c c' (went_on a b c n m first more) last)

  pub each_on : (old mid new : List M) (n m : ℕ) → EachWent does n old mid → EachWent does m mid new → EachWent does (n + m) old new
  each_on old mid new n m first more = record {
    as_many = more.as_many ∙ first.as_many;
    each = λ k d within. went_on (get_or old k d) (get_or mid k d) (get_or new k d) n m (first.each k d within) (more.each k d (let many : length mid ≡ length old = first.as_many in omega arith));
  }

  module _ (turns : M → ℕ) (counts : (a b : M) → does a b → turns b ≡ (turns a + 1) % 2 ^ 64) where
    next_mod : (x y z n : ℕ) → y % 2 ^ 64 ≡ (x + n) % 2 ^ 64 → z ≡ (y + 1) % 2 ^ 64 → z % 2 ^ 64 ≡ (x + (n + 1)) % 2 ^ 64
    next_mod x y z n is then = omega arith

    next_count : (x y z n : ℕ) → y % 2 ^ 64 ≡ (x + n) % 2 ^ 64 → z ≡ (y + 1) % 2 ^ 64 → z ≡ (x + (n + 1)) % 2 ^ 64
    next_count x y z n is then = omega arith

    went_mod : (a b : M) (n : ℕ) → Went does a n b → turns b % 2 ^ 64 ≡ (turns a + n) % 2 ^ 64
    went_mod a _ _ stood = ap (λ k. k % 2 ^ 64) (let same : turns a ≡ turns a + 0 = omega arith in same)
    went_mod a _ _ (turned n b c before last) = next_mod (turns a) (turns b) (turns c) n (went_mod a b n before) (counts b c last)

    went_counts : (a b : M) (n : ℕ) → Went does a n b → 0 < n → turns b ≡ (turns a + n) % 2 ^ 64
    went_counts a _ _ stood some = absurd (omega arith)
    went_counts a _ _ (turned n b c before last) some = next_count (turns a) (turns b) (turns c) n (went_mod a b n before) (counts b c last)

    pub have_counted : (old new : List M) (n : ℕ) → EachWent does n old new → 0 < n → HaveCounted turns n old new
    have_counted old new n went some = record { each = λ k d within. went_counts (get_or old k d) (get_or new k d) n (went.each k d within) some }

module _ {M : Type 0} (does : M → M → Type 0) (fits : M → Type 0) (keeps : (a b : M) → does a b → fits a → fits b) where
  went_fits : (a b : M) (n : ℕ) → Went does a n b → fits a → fits b
  went_fits a _ _ stood fit = fit
  went_fits a _ _ (turned n b c before last) fit = keeps b c last (went_fits a b n before fit)

  -- turns keep members fit
  pub fit_on : (old new : List M) (n : ℕ) → EachWent does n old new → AllFit fits old → AllFit fits new
  fit_on old new n went fit = record { each = λ k d within. (let many : length new ≡ length old = went.as_many in went_fits (get_or old k d) (get_or new k d) n (went.each k d (omega arith)) (fit.each k d (omega arith))) }

pub fit_set : {M : Type 0} (fits : M → Type 0) (xs : List M) (k : ℕ) (y : M) → AllFit fits xs → k < length xs → fits y → AllFit fits (slice_set xs k y)
fit_set {M} fits xs k y all lt fit = record { each = λ i d within. each_set (λ j (z : M). fits z) xs k y lt fit (λ j e differ j_lt. all.each j e j_lt) i d (let same : length (slice_set xs k y) ≡ length xs = length-set xs k y in omega arith) }
