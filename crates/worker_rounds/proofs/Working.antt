-- Rounds one after another, and what all workers did.
use Rattle.std.proofs.Common.{◌≡◌, ℕ, zero, suc, ◌+◌, ◌<◌, ◌≤◌, Bool, true, false, List, [], ◌∷◌, length, get_or, Option, Some, None, refl, sym, ap, ◌∙◌, subst, arith, leb, is_some}
use Rattle.std.specs.Prelude.{All, if◌then◌else◌}
use Rattle.std.proofs.lemmas.Bool.{leb-true, leb-false}
use Rattle.std.proofs.lemmas.List.{get_or_default}
use Rattle.std.proofs.lemmas.Option.{same_Some}
use Rattle.std.proofs.lemmas.List.Elements.{All-nil, All-cons, All-head, All-tail}
use Rattle.worker_rounds.specs.declared.mesh_bad.MeshBad.{MeshBad}
use Rattle.worker_rounds.specs.declared.worker.RoundEnd.{RoundEnd}
use Rattle.worker_rounds.specs.declared.worker.RoundEnd.TheVariants.{Quiet, Spent, Faulted}
use Rattle.worker_rounds.specs.Passes.{EachWent}
use Rattle.worker_rounds.specs.Rounds.{Work, Passed, Failed, Rounded, IsSound, Worked}
use Rattle.worker_rounds.specs.Rounds as rounds
use Rattle.worker_rounds.specs.Rounds.Passed.{all_still, all_made}
use Rattle.worker_rounds.specs.Rounds.Rounded.{was_quiet, was_spent, was_faulted}
use Rattle.worker_rounds.specs.Rounds.Went.{went_well, went_wrong}
use Rattle.worker_rounds.specs.Crew.{AreSound, AllWorked, order_of, sooner_of, NoneKept, FirstKept}
use Rattle.worker_rounds.proofs.Passing.{none_went, each_on, fit_on}

pub some_none : {X : Type 0} (x : X) (o : Option X) → o ≡ Some x → o ≡ None → ⊥
some_none x o is none = (let both : Some x ≡ None = sym is ∙ none in absurd cc)

module _ {M : Type 0} (does : M → M → Type 0) (fails : M → MeshBad → M → Type 0) (turns still : M → ℕ) where
  -- a round by its members and what it keeps
  pub quiet_round : (old new : Work M) (members : List M) → Passed does turns still old.members members true → new.members ≡ members → new.fault ≡ None → Rounded does fails turns still old new Quiet
  quiet_round old new members passed is none = was_quiet none (subst (λ ms. Passed does turns still old.members ms true) (sym is) passed)

  pub spent_round : (old new : Work M) (members : List M) → Passed does turns still old.members members false → new.members ≡ members → new.fault ≡ None → Rounded does fails turns still old new Spent
  spent_round old new members passed is none = was_spent none (subst (λ ms. Passed does turns still old.members ms false) (sym is) passed)

  pub faulted_round : (old new : Work M) (members : List M) (fault : MeshBad) → Failed does fails old.members members fault → new.members ≡ members → new.fault ≡ Some fault → Rounded does fails turns still old new Faulted
  faulted_round old new members fault failed is kept = was_faulted fault kept (subst (λ ms. Failed does fails old.members ms fault) (sym is) failed)

  -- how many passes a round that met no fault had
  passed_some : (old new : List M) (quiet : Bool) → Passed does turns still old new quiet → (n : ℕ) × EachWent does n old new
  passed_some old new _ (all_still n least most went counted are_still) = (n, went)
  passed_some old new _ (all_made went counted) = (4096, went)

  module _ (fits : M → Type 0) (keeps : (a b : M) → does a b → fits a → fits b) where
    pub none_worked : (worker : Work M) → IsSound fits worker → Worked does fails fits worker worker
    none_worked worker sound = record { number = refl; went = went_well 0 (none_went does worker.members) sound.no_fault; sound = λ none. sound }

    well_on : (a b c : Work M) → rounds.Went does fails a b → b.fault ≡ None → (n : ℕ) → EachWent does n b.members c.members → c.fault ≡ None → rounds.Went does fails a c
    well_on a b c (went_well m first none) sound n more after = went_well (m + n) (each_on does a.members b.members c.members m n first more) after
    well_on a b c (went_wrong fault failed kept) sound n more after = absurd (some_none fault b.fault kept sound)

    wrong_on : (a b c : Work M) → rounds.Went does fails a b → b.fault ≡ None → (fault : MeshBad) → Failed does fails b.members c.members fault → c.fault ≡ Some fault → rounds.Went does fails a c
    wrong_on a b c (went_well m first none) sound fault failed kept = went_wrong fault (record { passes = m + failed.passes; mid = failed.mid; before = each_on does a.members b.members failed.mid m failed.passes first failed.before; last = failed.last }) kept
    wrong_on a b c (went_wrong other before is) sound fault failed kept = absurd (some_none other b.fault is sound)

    round_on : (a b c : Work M) (end : RoundEnd) → rounds.Went does fails a b → IsSound fits b → Rounded does fails turns still b c end → rounds.Went does fails a c
    round_on a b c _ before sound (was_quiet none passed) = (let some = passed_some b.members c.members true passed in well_on a b c before sound.no_fault some.0 some.1 none)
    round_on a b c _ before sound (was_spent none passed) = (let some = passed_some b.members c.members false passed in well_on a b c before sound.no_fault some.0 some.1 none)
    round_on a b c _ before sound (was_faulted fault kept failed) = wrong_on a b c before sound.no_fault fault failed kept

    round_fits : (b c : Work M) (end : RoundEnd) → IsSound fits b → Rounded does fails turns still b c end → c.fault ≡ None → IsSound fits c
    round_fits b c _ sound (was_quiet none passed) after = (let some = passed_some b.members c.members true passed in record { fit = fit_on does fits keeps b.members c.members some.0 some.1 sound.fit; no_fault = after })
    round_fits b c _ sound (was_spent none passed) after = (let some = passed_some b.members c.members false passed in record { fit = fit_on does fits keeps b.members c.members some.0 some.1 sound.fit; no_fault = after })
    round_fits b c _ sound (was_faulted fault kept failed) after = absurd (some_none fault c.fault kept after)

    pub worked_on : (a b c : Work M) (end : RoundEnd) → Worked does fails fits a b → IsSound fits b → c.number ≡ b.number → Rounded does fails turns still b c end → Worked does fails fits a c
    worked_on a b c end before sound number round = record { number = number ∙ before.number; went = round_on a b c end before.went sound round; sound = round_fits b c end sound round }

module _ {M : Type 0} (does : M → M → Type 0) (fails : M → MeshBad → M → Type 0) (fits : M → Type 0) where
  -- rounds after rounds that met no fault
  more_went : (a b c : Work M) → rounds.Went does fails a b → b.fault ≡ None → rounds.Went does fails b c → rounds.Went does fails a c
  more_went a b c (went_well m first none) sound (went_well n more after) = went_well (m + n) (each_on does a.members b.members c.members m n first more) after
  more_went a b c (went_well m first none) sound (went_wrong fault failed kept) = went_wrong fault (record { passes = m + failed.passes; mid = failed.mid; before = each_on does a.members b.members failed.mid m failed.passes first failed.before; last = failed.last }) kept
  more_went a b c (went_wrong fault failed kept) sound more = absurd (some_none fault b.fault kept sound)

  pub all_in : (P : Work M → Type 0) (xs : List (Work M)) → All P xs → (k : ℕ) (d : Work M) → k < length xs → P (get_or xs k d)
  all_in P [] all k d within = absurd (omega arith)
  all_in P (x ∷ xs) all zero d within = All-head P x xs all
  all_in P (x ∷ xs) all (suc k) d within = all_in P xs (All-tail P x xs all) k d (omega arith)

  pub all_of : (P : Work M → Type 0) (xs : List (Work M)) → ((k : ℕ) (d : Work M) → k < length xs → P (get_or xs k d)) → All P xs
  all_of P [] each = All-nil P
  all_of P (x ∷ xs) each = All-cons P x xs (each 0 x (omega arith)) (all_of P xs (λ k d within. each (suc k) d (omega arith)))

  pub none_did : (workers : List (Work M)) → AreSound fits workers → AllWorked does fails fits workers workers
  none_did workers sound = record { as_many = refl; each = λ k d within. (let w = all_in (IsSound fits) workers sound k d within in record { number = refl; went = went_well 0 (none_went does (get_or workers k d).members) w.no_fault; sound = λ none. w }) }

  pub all_on : (a b c : List (Work M)) → AllWorked does fails fits a b → AreSound fits b → AllWorked does fails fits b c → AllWorked does fails fits a c
  all_on a b c before sound more = record {
    as_many = more.as_many ∙ before.as_many;
    each = λ k d within. (let in_b : k < length b = (let many : length b ≡ length a = before.as_many in omega arith) in let first = before.each k d within in let second = more.each k d in_b in record { number = second.number ∙ first.number; went = more_went (get_or a k d) (get_or b k d) (get_or c k d) first.went (all_in (IsSound fits) b sound k d in_b).no_fault second.went; sound = second.sound });
  }

  pub sound_then : (old new : List (Work M)) → AllWorked does fails fits old new → NoneKept new (length new) → AreSound fits new
  sound_then old new worked none = all_of (IsSound fits) new (λ k d within. (worked.each k d (let many : length new ≡ length old = worked.as_many in omega arith)).sound (none.none k d within))

-- THE FIRST FAULT

module _ {M : Type 0} (workers : List (Work M)) where
  pub none_first : FirstKept workers 0 None
  none_first = record { none = λ k d none. absurd (omega arith) }

  -- what holds of the first so many and of the next
  up_to : (P : ℕ → Type 0) (count : ℕ) → ((k : ℕ) → k < count → P k) → P count → (k : ℕ) → k < count + 1 → P k
  up_to P count before here k within = at (leb count k) refl
    where
      at : (far : Bool) → leb count k ≡ far → P k
      at true e = subst P (let le : count ≤ k = leb-true count k e in let same : count ≡ k = omega arith in same) here
      at false e = before k (leb-false count k e)

  fault_at : (k : ℕ) (x d : Work M) → k < length workers → x ≡ get_or workers k x → (get_or workers k d).fault ≡ x.fault
  fault_at k x d within is = ap (λ (w : Work M). w.fault) (get_or_default workers k d x within ∙ sym is)

  kept_more : (count : ℕ) (x : Work M) → count < length workers → x ≡ get_or workers count x → (first fault : Option MeshBad) → x.fault ≡ fault → FirstKept workers count first → FirstKept workers (count + 1) (sooner_of first fault)
  kept_more count x within is None None none so_far = record { none = λ k d. up_to (λ j. (get_or workers j d).fault ≡ None) count (λ j. so_far.none j d) (fault_at count x d within is ∙ none) k }
  kept_more count x within is None (Some fault) kept so_far = record {
    place = count;
    within = omega arith;
    kept = λ d. fault_at count x d within is ∙ kept;
    first = λ k d other. up_to (λ j. (get_or workers j d).fault ≡ Some other → order_of fault ≤ order_of other) count (λ j before other_kept. absurd (some_none other (get_or workers j d).fault other_kept (so_far.none j d before))) (λ other_kept. same_order fault other (sym (fault_at count x d within is ∙ kept) ∙ other_kept)) k;
  }
    where
      same_order : (f g : MeshBad) → Some f ≡ Some g → order_of f ≤ order_of g
      same_order f g e = subst (λ (h : MeshBad). order_of f ≤ order_of h) (same_Some f g e) (omega arith)
  kept_more count x within is (Some first) None none so_far = record {
    place = so_far.place;
    within = omega (arith, so_far.within);
    kept = so_far.kept;
    first = λ k d other. up_to (λ j. (get_or workers j d).fault ≡ Some other → order_of first ≤ order_of other) count (λ j. so_far.first j d other) (λ other_kept. absurd (some_none other (get_or workers count d).fault other_kept (fault_at count x d within is ∙ none))) k;
  }
  kept_more count x within is (Some first) (Some fault) kept so_far = at (leb (order_of first) (order_of fault)) refl
    where
      at : (sooner : Bool) → leb (order_of first) (order_of fault) ≡ sooner → FirstKept workers (count + 1) (if sooner then Some first else Some fault)
      at true e = record {
        place = so_far.place;
        within = omega (arith, so_far.within);
        kept = so_far.kept;
        first = λ k d other. up_to (λ j. (get_or workers j d).fault ≡ Some other → order_of first ≤ order_of other) count (λ j. so_far.first j d other) (λ other_kept. subst (λ (h : MeshBad). order_of first ≤ order_of h) (same_Some fault other (sym (fault_at count x d within is ∙ kept) ∙ other_kept)) (leb-true (order_of first) (order_of fault) e)) k;
      }
      at false e = record {
        place = count;
        within = omega arith;
        kept = λ d. fault_at count x d within is ∙ kept;
        first = λ k d other. up_to (λ j. (get_or workers j d).fault ≡ Some other → order_of fault ≤ order_of other) count (λ j before other_kept. (let later : order_of fault < order_of first = leb-false (order_of first) (order_of fault) e in let least : order_of first ≤ order_of other = so_far.first j d other before other_kept in omega arith)) (λ other_kept. subst (λ (h : MeshBad). order_of fault ≤ order_of h) (same_Some fault other (sym (fault_at count x d within is ∙ kept) ∙ other_kept)) (omega arith)) k;
      }

  pub none_kept : (found : Option MeshBad) → FirstKept workers (length workers) found → found ≡ None → NoneKept workers (length workers)
  none_kept None first is = first
  none_kept (Some fault) first is = absurd (let both : Some fault ≡ None = is in cc)

  pub first_more : (count : ℕ) (x : Work M) → count < length workers → x ≡ get_or workers count x → (first fault : Option MeshBad) → fault ≡ x.fault → FirstKept workers count first → FirstKept workers (count + 1) (sooner_of first fault)
  first_more count x within is first fault same so_far = kept_more count x within is first fault (sym same) so_far

pub none_if : (fault : Option MeshBad) → is_some fault ≡ false → fault ≡ None
none_if None none = refl
none_if (Some fault) none = absurd (let both : true ≡ false = none in cc)
