-- What the agenda has, and what it has after a time was noted or set.
use Rattle.std.specs.Prelude.{ℕ, suc, zero, ◌≡◌, ◌≢◌, ◌≤◌, ◌<◌, ◌⊎◌, nat_le, min, true, List, [], ◌∷◌, length, Option, Some, None, slice_get, slice_set, slice_index_or, refl}
use Rattle.std.proofs.lemmas.Bool.{false≢true, cases_eq, cases_lt}
use Rattle.std.proofs.lemmas.Bool.Decides.{nat_tests}
use Rattle.std.proofs.lemmas.List.{length-set}
use Rattle.std.proofs.lemmas.Option.{slice_get-get_or, slice_get_within, get_or_from_slice_get}
use Rattle.std.proofs.Common.{sym, ap, ◌∙◌, arith, subst, ⊎_elim, get_or-set_same, get_or-set_other}
use Rattle.moment_tree.specs.declared.agenda.Moment.{Moment}
use Rattle.moment_tree.specs.Dues.{sooner}
use Rattle.moment_tree.specs.Places.{clock}
use Rattle.global_model.specs.Agenda.{covers, has, note, IsNext}
use Rattle.global_model.proofs.Nested.{get_set_same, get_set_other}

le_of : (u t : ℕ) → nat_le u t ≡ true → u ≤ t
le_of u t is = grind (arith, nat_tests)

test_of : (u t : ℕ) → u ≤ t → nat_le u t ≡ true
test_of u t le = grind (arith, nat_tests)

-- a component whose time is there
pub has_some : (t c : ℕ) (dues : List (Option ℕ)) → has t c dues ≡ true → (u : ℕ) × (slice_get dues c ≡ Some (Some u)) × (u ≤ t)
has_some t c dues there = ⊎_elim inside (λ ge. outside (past dues c ge)) (cases_lt c (length dues))
  where
    past : (xs : List (Option ℕ)) (i : ℕ) → length xs ≤ i → slice_index_or xs i None ≡ None
    past [] i le = refl
    past (x ∷ xs) zero le = absurd (omega arith)
    past (x ∷ xs) (suc i) le = past xs i (omega arith)

    outside : slice_index_or dues c None ≡ None → (u : ℕ) × (slice_get dues c ≡ Some (Some u)) × (u ≤ t)
    outside is = absurd (false≢true (ap (covers t) (sym is) ∙ there))

    inside : c < length dues → (u : ℕ) × (slice_get dues c ≡ Some (Some u)) × (u ≤ t)
    inside lt = at (slice_index_or dues c None) (slice_get-get_or dues c None lt) there
      where
        at : (due : Option ℕ) → slice_get dues c ≡ Some due → covers t due ≡ true → (u : ℕ) × (slice_get dues c ≡ Some (Some u)) × (u ≤ t)
        at None is covered = absurd (false≢true covered)
        at (Some u) is covered = (u, is, le_of u t covered)

pub some_has : (t c u : ℕ) (dues : List (Option ℕ)) → slice_get dues c ≡ Some (Some u) → u ≤ t → has t c dues ≡ true
some_has t c u dues is le = ap (covers t) (get_or_from_slice_get dues c (Some u) None is) ∙ test_of u t le

-- no moment of the agenda is before its first
pub least : {m : Moment} {dues : List (Option ℕ)} → IsNext m dues → (u d : ℕ) → has u d dues ≡ true → clock m.at m.component d ≤ u
least {m} {dues} next u d there =
    let found : (w : ℕ) × (slice_get dues d ≡ Some (Some w)) × (w ≤ u) = has_some u d dues there in
    let le : clock m.at m.component d ≤ found.0 = next.first d found.0 found.1 in
    let more : found.0 ≤ u = found.2 in
    omega arith

-- outside the range nothing is set
set_past : {X : Type 0} (xs : List X) (i : ℕ) (x : X) → length xs ≤ i → slice_set xs i x ≡ xs
set_past [] i x le = refl
set_past (y ∷ ys) zero x le = absurd (omega arith)
set_past (y ∷ ys) (suc i) x le = ap (λ zs. y ∷ zs) (set_past ys i x (omega arith))

-- WHAT WAS SET

pub has-set_other : (t c d : ℕ) (due : Option ℕ) (dues : List (Option ℕ)) → c ≢ d → has t d (slice_set dues c due) ≡ has t d dues
has-set_other t c d due dues ne = ap (covers t) (get_or-set_other dues c d due None (λ e. ne (sym e)))

pub has-set : (t c u : ℕ) (dues : List (Option ℕ)) → c < length dues → u ≤ t → has t c (slice_set dues c (Some u)) ≡ true
has-set t c u dues lt le = ap (covers t) (get_or-set_same dues c (Some u) None lt) ∙ test_of u t le

-- what is noted, and what the agenda had, it has
pub has-noted : (t c : ℕ) (dues : List (Option ℕ)) → c < length dues → has t c (note t c dues) ≡ true
has-noted t c dues lt = has-set t c (sooner t (slice_index_or dues c None)) dues lt (first t (slice_index_or dues c None))
  where
    first : (t : ℕ) (due : Option ℕ) → sooner t due ≤ t
    first t None = omega arith
    first t (Some u) = omega arith

pub has-note : (t c at d : ℕ) (dues : List (Option ℕ)) → has t c dues ≡ true → has t c (note at d dues) ≡ true
has-note t c at d dues there = ⊎_elim (λ e. subst (λ x. has t c (note at x dues) ≡ true) (sym e) same) (λ ne. has-set_other t d c (Some (sooner at (slice_index_or dues d None))) dues ne ∙ there) (cases_eq d c)
  where
    same : has t c (note at c dues) ≡ true
    same =
        let found : (u : ℕ) × (slice_get dues c ≡ Some (Some u)) × (u ≤ t) = has_some t c dues there in
        let is : slice_index_or dues c None ≡ Some found.0 = get_or_from_slice_get dues c (Some found.0) None found.1 in
        let le : found.0 ≤ t = found.2 in
        has-set t c (sooner at (slice_index_or dues c None)) dues (slice_get_within dues c (Some found.0) found.1) (subst (λ due. sooner at due ≤ t) (sym is) (omega arith))

-- WHAT HOLDS OF ALL MOMENTS

abbrev pub AllDue : (ℕ → ℕ → Type 0) → List (Option ℕ) → Type 0
AllDue P dues = (d u : ℕ) → slice_get dues d ≡ Some (Some u) → P d u

-- where a component's time is set, only the others' matter
pub AllDue-set : (P : ℕ → ℕ → Type 0) (c t : ℕ) (dues : List (Option ℕ)) → P c t → AllDue (λ d u. c ≢ d → P d u) dues → AllDue P (slice_set dues c (Some t))
AllDue-set P c t dues here others = λ d u is. ⊎_elim (λ e. subst (λ x. P x u) e (own u (subst (λ x. slice_get (slice_set dues c (Some t)) x ≡ Some (Some u)) (sym e) is))) (λ ne. others d u (sym (get_set_other dues c d (Some t) ne) ∙ is) ne) (cases_eq c d)
  where
    own : (u : ℕ) → slice_get (slice_set dues c (Some t)) c ≡ Some (Some u) → P c u
    own u is =
        let within : c < length dues = subst (λ n. c < n) (length-set dues c (Some t)) (slice_get_within (slice_set dues c (Some t)) c (Some u) is) in
        let both : Some (Some t) ≡ Some (Some u) = sym (get_set_same dues c (Some t) within) ∙ is in
        let same : t ≡ u = cc in
        subst (P c) same here

pub AllDue-note : (P : ℕ → ℕ → Type 0) (t c : ℕ) (dues : List (Option ℕ)) → P c t → AllDue P dues → AllDue P (note t c dues)
AllDue-note P t c dues here all = λ d u is.
    let within : c < length dues → P c (sooner t (slice_index_or dues c None)) = λ lt. first (slice_index_or dues c None) (slice_get-get_or dues c None lt) in
    ⊎_elim (λ lt. AllDue-set P c (sooner t (slice_index_or dues c None)) dues (within lt) (λ d u found ne. all d u found) d u is) (λ ge. all d u (sym (ap (λ xs. slice_get xs d) (set_past dues c (Some (sooner t (slice_index_or dues c None))) ge)) ∙ is)) (cases_lt c (length dues))
  where
    lesser : (u : ℕ) → P c u → (min t u ≡ t) ⊎ (min t u ≡ u) → P c (min t u)
    lesser u there which = ⊎_elim (λ e. subst (P c) (sym e) here) (λ e. subst (P c) (sym e) there) which

    which : (t u : ℕ) → (min t u ≡ t) ⊎ (min t u ≡ u)
    which t u = grind arith

    first : (due : Option ℕ) → slice_get dues c ≡ Some due → P c (sooner t due)
    first None is = here
    first (Some u) is = lesser u (all c u is) (which t u)

pub length-note : (t c : ℕ) (dues : List (Option ℕ)) → length (note t c dues) ≡ length dues
length-note t c dues = length-set dues c (Some (sooner t (slice_index_or dues c None)))
